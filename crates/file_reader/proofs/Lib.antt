-- Laws that belong to no one function. For users of the reader: `Promising`, `Sentences` and `OneWay`, of what is promised of a file by its lines;
-- `FileLaws`, `Yielded`, `Agreeing`, `CommentLaws`, `Lookup` and `Late`; `Examples`, files of each refusal.
pub mod LineLoops
pub mod Lookup
pub mod Held
pub mod Yielded
pub mod Answered
pub mod Agreeing
pub mod Late
pub mod FileRuns
pub mod FileStates
pub mod FileLaws
pub mod OneWay
pub mod CommentLaws
pub mod Promising
pub mod Sentences
pub mod Examples
