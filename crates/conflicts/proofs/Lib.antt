-- From single tests to the two theorems of R-2; then the tests, and the run that omits.
pub mod Searching
pub mod Unopposed
pub mod Holding
pub mod Essentials
pub mod Reducing
pub mod Covering
pub mod Sentences
pub mod SamePairs
pub mod Testing
pub mod Example
pub mod Omitting
