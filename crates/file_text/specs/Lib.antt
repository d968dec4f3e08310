-- What a reader must believe of lines, as 01 says them and as they are found, of fields and texts. What the crate's own steps promise each other is private.
pub mod Texts
pub mod Lines
pub mod Fields
pub mod Bytes
pub mod private
