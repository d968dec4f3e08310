-- Laws that belong to no one function: the judges' tests decide the definitions.
pub mod NestedTest
pub mod WidestTest
pub mod RowLoops
pub mod Verdicts
pub mod KnownChains
