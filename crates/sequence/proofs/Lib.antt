-- Laws that belong to no one function: the choice of one number, the turns that take them, the answers, what a run call carries, and lists to be checked.
pub mod Choosing
pub mod Taking
pub mod Answers
pub mod Carried
pub mod Complete
pub mod Sentences
