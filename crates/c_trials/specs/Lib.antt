-- What a reader must believe of trials and commits on lent words.
pub mod Serving
