-- Laws that belong to no one function.
pub mod Serving
pub mod Answers
pub mod Sentences
