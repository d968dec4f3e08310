-- How the reader takes what the writer writes: lines and their words, readings gathered entry by entry, whole files, and files of equal tests.
pub mod ReadBack
pub mod Gathered
pub mod RoundTrip
pub mod EqualFiles
pub mod Written
