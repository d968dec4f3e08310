-- Laws that belong to no one function: the calls of a block, its turns, the blocks one after another, and that each definition can be met and
-- leaves one answer.
pub mod Chains
pub mod Calls
pub mod Batching
pub mod OneTurn
pub mod Fillings
pub mod Deciding
pub mod Listing
pub mod Existence
pub mod PlainBlocks
pub mod Sentences
