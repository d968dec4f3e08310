-- Laws that belong to no one function: the comparison of conflicts by unions, what each step computes, and what the entries answer.
pub mod Comparing
pub mod RowLaws
pub mod Storing
pub mod Outdoing
pub mod Answers
