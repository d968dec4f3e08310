-- Laws that belong to no one function.
pub mod Rows
pub mod Checking
pub mod Placing
pub mod Storing
pub mod Answers
pub mod Sentences
