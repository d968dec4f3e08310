-- What a reader must believe of picks handed in; `private` is for the steps alone.
pub mod Picked
pub mod private
