-- Laws that belong to no one function. For users of the entries: `Answers`, `Back` and `Sentences`.
pub mod Reading
pub mod Storing
pub mod Serving
pub mod Answers
pub mod Back
pub mod Sentences
