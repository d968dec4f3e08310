-- What a reader must believe of one line of a file: the banner, the lines behind it in 01's words, and how the functions tell them.
pub mod Banner
pub mod OneLine
pub mod Kinds
