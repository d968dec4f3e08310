-- Laws that belong to no one function. For users of the entries: `Reading`, `Sentences` and `Joined`.
pub mod Readings
pub mod Reading
pub mod Serving
pub mod Joined
pub mod Sentences
pub mod Answers
