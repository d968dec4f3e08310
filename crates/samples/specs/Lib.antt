-- What a reader must believe of the sample tables: the generator and its inverse, and the table made from it. `private` is for private steps.
pub mod Xorshift
pub mod Samples
pub mod private
