-- What a reader must believe of boards; `Clearing` is for private steps alone.
pub mod Boards
pub mod private
