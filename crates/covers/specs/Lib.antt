-- What a reader must believe of covers, of their least number, of the search for it, and of one gauge replaced.
pub mod Covers
pub mod Searching
pub mod Fewest
pub mod Replacing
