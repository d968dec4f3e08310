-- Laws of recorded tests: one turn of each loop, the answers of the checks, the table at a cutoff, legality, the pairs of that table in 02's
-- words, equality.
pub mod Turns
pub mod Checking
pub mod Reaching
pub mod Legality
pub mod Cutoffs
pub mod Equal
pub mod Equivalence
