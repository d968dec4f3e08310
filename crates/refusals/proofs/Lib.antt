-- Laws of refusals and of answers.
pub mod Answering
