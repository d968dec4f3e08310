-- What a reader must believe of the question why a pair is left out.
pub mod Reasons
pub mod private
