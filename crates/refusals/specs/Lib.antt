-- What a reader must believe of refusals: the number of each in 01, how an answer reads, and how a refusal is printed.
pub mod Answers
pub mod Printing
