-- What a reader must believe of the starts and the run calls on lent words.
pub mod Calls
pub mod Serving
