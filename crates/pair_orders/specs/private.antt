-- Definitions that only private steps of code or proofs mention. No public promise does, and a reader need not believe them.
pub mod Growing
