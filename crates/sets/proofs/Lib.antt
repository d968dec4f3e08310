-- Laws that belong to no one function. The other crates rest on `Order`, `Joins`, `Masks` and `Tabulated`.
pub mod Tests
pub mod Digits
pub mod Order
pub mod LowestPlace
pub mod OnePlace
pub mod Joins
pub mod Tabulated
pub mod Masks
