-- From the search over any ladders and pairs to the least number of a table.
pub mod Searching
pub mod Rows
pub mod Covers
pub mod Sides
pub mod Fewest
pub mod Samples
pub mod Replacing
pub mod Sentences
