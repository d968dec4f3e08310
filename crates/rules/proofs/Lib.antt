-- The laws of the machine, from lists to what a list of calls hands out.
pub mod Sequences
pub mod Trees
pub mod Leaves
pub mod Progress
pub mod Reach
pub mod Calls
pub mod Reports
pub mod Ends
pub mod Kept
pub mod Keeping
pub mod Attained
pub mod Renaming
pub mod Reaching
