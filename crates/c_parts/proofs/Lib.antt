-- Laws that belong to no one function. For users of the entries: `Pinned`, `Choices` and `Sentences`.
pub mod Serving
pub mod Deciding
pub mod Reading
pub mod Whole
pub mod Contracts
pub mod Pinned
pub mod Choices
pub mod Sentences
