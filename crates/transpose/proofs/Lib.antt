-- Laws of the two sides exchanged: of a set of pairs, of the code's way, of a table.
pub mod Transposition
pub mod Columns
pub mod Sides
