-- The ladders by the run, the search on their boards, and the answers.
pub mod Listing
pub mod Chains
pub mod Searching
pub mod Answers
pub mod Sentences
