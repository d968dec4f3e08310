-- What a reader must believe of runs that are paused on a table when a flip is committed.
pub mod KeptRuns
