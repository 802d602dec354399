pub mod Values
pub mod Weights
