-- Laws of the parts of a listing.
pub mod Prefixes
pub mod Joining
pub mod BelowLeaves
pub mod Leaving
pub mod Places
pub mod Splitting
pub mod Listing
pub mod Closing
pub mod Ends
pub mod PartCalls
pub mod KnownParts
