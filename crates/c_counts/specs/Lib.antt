-- What a reader must believe of counting and of sample tables on lent words.
pub mod Serving
