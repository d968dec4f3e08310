-- Runs that are paused on a table when a flip is committed.
pub mod KeptRuns
