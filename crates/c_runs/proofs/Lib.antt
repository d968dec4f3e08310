-- Laws that belong to no one function. For users of the entries: `Foreign`, `Pinned` and `Sentences`.
pub mod Serving
pub mod Sides
pub mod Deciding
pub mod HandOuts
pub mod Returned
pub mod Telling
pub mod WordCalls
pub mod Contracts
pub mod Foreign
pub mod Pinned
pub mod Sentences
