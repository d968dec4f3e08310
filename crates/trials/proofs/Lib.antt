-- Laws that belong to no one function: when two proposals are the same, flips, their effects on a maximal chain, the answers of trials and commits,
-- and known effects.
pub mod Comparing
pub mod Flips
pub mod Effects
pub mod Answers
pub mod Commits
pub mod KnownEffects
