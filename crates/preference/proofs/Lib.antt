-- Laws that belong to no one function.
pub mod Holding
pub mod Placing
pub mod Gathering
pub mod PlainOrder
