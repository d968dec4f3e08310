-- Laws that belong to no one function. For users of the entries: `Answers`, `Sentences` and `RoundTrip`.
pub mod Serving
pub mod Answers
pub mod Sentences
pub mod RoundTrip
