-- Laws that belong to no one function. For users of the entry: `Answers`, `Back` and `Sentences`.
pub mod Storing
pub mod Serving
pub mod Answers
pub mod Back
pub mod Sentences
