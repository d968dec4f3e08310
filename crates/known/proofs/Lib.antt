-- The known tables, proved.
pub mod AllKnown
pub mod Sentences
pub mod Preferring
