-- What a reader must believe of preferences as they are handed in, and of places in them; `private` is for private steps alone.
pub mod Preferences
pub mod Placing
pub mod private
