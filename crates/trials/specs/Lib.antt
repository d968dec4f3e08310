-- What a reader must believe of trials and commits; `private` is for their private steps alone.
pub mod Trials
pub mod private
