-- Laws that belong to no one function.
pub mod PartRuns
pub mod Batches
pub mod Trying
pub mod Finding
pub mod Answers
pub mod Whole
pub mod Choices
pub mod Readings
pub mod Sentences
