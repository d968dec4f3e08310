-- What a reader must believe of finding candidates.
pub mod Finding
