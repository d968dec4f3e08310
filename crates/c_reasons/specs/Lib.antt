-- What a reader must believe of the question why a pair is left out, on lent words.
pub mod Serving
