-- What a reader must believe of reading, writing and comments on lent words and bytes.
pub mod Serving
