-- Laws that belong to no one function. For users of the entry: `Answers` and `Sentences`.
pub mod Serving
pub mod Answers
pub mod Sentences
