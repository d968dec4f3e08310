-- Laws that belong to no one function: the loops, the picks they make, and the answers.
pub mod PickLoops
pub mod Picking
pub mod Answers
pub mod Plain
