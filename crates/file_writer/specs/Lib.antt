-- What a reader must believe of writing. What the crate's own steps promise each other is private.
pub mod Writing
pub mod TestFiles
pub mod private
