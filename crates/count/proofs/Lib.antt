-- Laws that belong to no one function.
pub mod Sums
pub mod Unpicked
pub mod Turns
pub mod Nodes
pub mod Reached
pub mod Answers
pub mod Laws
pub mod Plain
pub mod KnownCounts
