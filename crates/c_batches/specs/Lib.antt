-- What a reader must believe of batches on lent words.
pub mod Serving
