-- What a reader must believe of the pick sequence of a ladder; `private` is for private steps alone.
pub mod Sequencing
pub mod Checking
pub mod private
