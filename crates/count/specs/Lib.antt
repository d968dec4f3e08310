-- What a reader must believe of the count; `private` is for its private step alone.
pub mod Counting
pub mod private
