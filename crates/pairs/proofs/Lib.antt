-- Laws of the list of a set's pairs.
pub mod Pairs
