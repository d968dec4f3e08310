-- What a reader must believe of extending a chain; `private` is for its private steps alone.
pub mod Extending
pub mod private
