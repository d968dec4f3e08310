-- What a reader must believe of the parts of a listing, and of the calls that list one.
pub mod Parts
pub mod Calls
