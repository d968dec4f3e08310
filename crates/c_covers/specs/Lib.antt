-- What a reader must believe of the fewest ladders on lent words.
pub mod Serving
