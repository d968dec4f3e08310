-- What a reader must believe of the number of the release, of words and of the plain order on lent memory; `private` is for private steps alone.
pub mod Words
pub mod Serving
pub mod private
