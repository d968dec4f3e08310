-- What a reader must believe of recorded tests: their readings, their checks, the table at a cutoff, its pairs, and equality.
pub mod Tests
pub mod Cutoffs
pub mod Equality
