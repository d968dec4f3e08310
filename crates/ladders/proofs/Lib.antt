-- Laws that belong to no one function: words that are cutoffs, and the digits taken so far.
pub mod Words
