-- What a reader must believe of the two judges; `private` is for their private steps alone.
pub mod Judging
pub mod WidestRows
pub mod private
