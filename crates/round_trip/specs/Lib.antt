-- What a user reads of the round trip; the proofs are in proofs/.
pub mod Back
