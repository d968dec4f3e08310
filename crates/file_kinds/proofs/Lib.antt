-- Laws of the kinds of line. For users: the first lines that are read, of `Opening`, the ranges of `KindOf`, what an answer is, of `Saying`, and each
-- kind of line in 01's words, of `LineWords`.
pub mod Opening
pub mod KindOf
pub mod Saying
pub mod LineWords
