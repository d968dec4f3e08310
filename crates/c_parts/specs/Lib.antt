-- What a reader must believe of the parts of a list, on lent words.
pub mod Serving
