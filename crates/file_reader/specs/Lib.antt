-- What a reader must believe of the file: what a legal file is and where another fails, its comment lines, and what the functions promise by that. `private`
-- is for their private steps alone.
pub mod Files
pub mod Comments
pub mod Promises
pub mod private
