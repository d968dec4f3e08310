-- What a reader must believe of the two sides exchanged; `private` is for the steps alone.
pub mod Transposing
pub mod Places
pub mod Putting
pub mod private
