-- What a reader must believe of what the benchmarks list: the numbers of a run's order, and the sum over the ladders handed out.
pub mod Listing
