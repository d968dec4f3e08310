-- What a reader must believe of the orders in which a chain grows pair by pair; `private` is for the search of the next pair alone.
pub mod Adding
pub mod private
