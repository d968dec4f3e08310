-- What a reader must believe of the words of lent slices: the layouts, and what an entry of the C library as a whole gives.
pub mod Layouts
pub mod Serving
