-- What a reader must believe of recorded tests on lent memory: how slices read as a test, and what the entries give; `private` is for
-- private steps alone.
pub mod Layouts
pub mod Serving
pub mod private
