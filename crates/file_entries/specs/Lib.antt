-- What a reader must believe of the fields of an entry line. What the crate's own steps promise each other is private.
pub mod Values
pub mod Words
pub mod private
