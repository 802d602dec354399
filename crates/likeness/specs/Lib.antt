-- The meaning.
pub mod Demand3
