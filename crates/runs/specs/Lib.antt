-- What a reader must believe of paused values and run calls; `Working` is for the core's private steps alone.
pub mod Paused
pub mod Calling
pub mod Demand
pub mod Omitting
pub mod Batches
pub mod Sides
pub mod private
