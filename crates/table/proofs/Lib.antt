-- Laws that belong to no one function. For users: pairs by their places, nested rows, padded rows, rows compared (`Agreement`), unions of
-- rows, what the checks decide (`Legality`), that no two answers read alike (`Making`), and which side is which (`Sides`). `CheckLoops` serves this
-- crate's loops alone.
pub mod Places
pub mod Nesting
pub mod Legality
pub mod CheckLoops
pub mod Making
pub mod Padding
pub mod Agreement
pub mod Unions
pub mod Sides
