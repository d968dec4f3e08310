-- Laws that belong to no one function: the search among the picks, what is left after them, the code's checks and loop, the claim of R-6, and
-- what the entries answer.
pub mod Picks
pub mod Leaves
pub mod Searching
pub mod Reasoning
pub mod Answers
pub mod Sentences
pub mod Plain
