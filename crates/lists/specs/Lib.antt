-- What a reader must believe of the two lists, of growing, and of the two runs, by number and under a preference.
pub mod Arrangements
pub mod PickSequence
pub mod Picks
pub mod Preferred
pub mod Lists
pub mod Growing
pub mod OnTable
pub mod Demand
pub mod Keeping
pub mod ByNumber
pub mod private
