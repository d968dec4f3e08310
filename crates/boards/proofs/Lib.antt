-- Boards: their places and rows, what is left of one, and the search over them.
pub mod Transfer
pub mod Bits
pub mod Boards
pub mod Clearing
pub mod Packing
