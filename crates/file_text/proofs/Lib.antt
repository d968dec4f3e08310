-- Laws that belong to no one function. For users: `LinesLaw` (the lines of a file in 01's words), `LineAt` (the line at a place), `same_lengths` of
-- `Comparing` and `fields_are` of `Saying`.
pub mod LinesLaw
pub mod FirstLine
pub mod LineAt
pub mod Scanning
pub mod Saying
pub mod Comparing
pub mod SmallLetters
