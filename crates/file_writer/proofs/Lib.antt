-- Laws that belong to no one function. For users of the writer: `Sizes`.
pub mod Decimals
pub mod Stores
pub mod PairLines
pub mod Readings
pub mod Sizes
pub mod RowSizes
pub mod Counting
pub mod Files
