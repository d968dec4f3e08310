-- The search with a budget, by its laws and by the steps of the code.
pub mod Spending
pub mod Steps
pub mod Laying
