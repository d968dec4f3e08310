-- What a reader must believe of the pick sequence on lent words.
pub mod Serving
