-- What a reader must believe of the search with a budget; `private` is for the private steps alone.
pub mod Spending
pub mod private
