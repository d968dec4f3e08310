-- What a reader must believe of writing an order on lent words and bytes.
pub mod Serving
