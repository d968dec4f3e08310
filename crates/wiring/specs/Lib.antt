-- What a reader must believe of writing an order; `private` is for its private steps alone.
pub mod Wiring
pub mod private
