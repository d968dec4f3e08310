-- Laws that belong to no one function. For users: `Words`, of the words of a line, `Signs`, of their values, `OldFields`, and `entry_fields_are` of
-- `Saying`.
pub mod Signs
pub mod Words
pub mod OldFields
pub mod Saying
