-- Laws that belong to no one function.
pub mod SearchLoops
pub mod Within
pub mod AfterPicks
pub mod ChainArrays
