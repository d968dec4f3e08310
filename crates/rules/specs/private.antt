-- Definitions that no entry of a user mentions: the laws of this crate and of the crates above it do.
pub mod Reports
pub mod Fitting
