-- What a reader must believe of the answers on conflicts and essential pairs, which crate `conflicts` defines.
pub mod Answers
pub mod private
