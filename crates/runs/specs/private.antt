-- Definitions that only private steps of this crate's code or proofs mention. No public promise does, and a reader need not believe them.
pub mod Either
pub mod Working
pub mod Listing
pub mod Core
pub mod Sided
pub mod Checks
