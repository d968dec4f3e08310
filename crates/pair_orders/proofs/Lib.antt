-- From one pair more in a set to orders between chains.
pub mod Adding
pub mod Taking
pub mod OneMore
pub mod NextPair
pub mod Counting
pub mod Greedy
pub mod Orders
pub mod Members
pub mod Sentences
pub mod Samples
