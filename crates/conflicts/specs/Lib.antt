-- What a reader must believe of conflicts, essential pairs and covers, and of the run that omits.
pub mod Conflicts
pub mod Covers
pub mod Tests
pub mod Omitting
pub mod private
