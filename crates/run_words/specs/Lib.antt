-- What a reader must believe of paused values and answers in words.
pub mod Values
