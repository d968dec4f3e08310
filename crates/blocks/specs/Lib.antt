-- What a reader must believe of blocks of files; `Turning` is what the crate's own steps promise each other.
pub mod Filling
pub mod private
