-- What a reader must believe of tables, chains and maximal chains.
pub mod Pairs
pub mod Chains
pub mod Tables
pub mod Unions
