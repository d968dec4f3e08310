-- Laws that belong to no one function. For users of the entries: `Answers` and `Sentences`.
pub mod Texts
pub mod Plain
pub mod Answers
pub mod Sentences
