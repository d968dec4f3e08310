-- What a reader must believe of the order of pairs.
pub mod PairOrder
