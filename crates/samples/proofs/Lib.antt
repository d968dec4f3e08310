-- Laws that belong to no one function.
pub mod Reversal
pub mod Turns
pub mod Rows
pub mod Refusing
pub mod Places
pub mod Sentences
