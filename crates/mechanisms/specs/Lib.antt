-- What a reader must believe of the fewest mechanisms; `private` is for the private steps alone.
pub mod Covering
pub mod private
