pub mod Rows
pub mod Rule
pub mod Passes
pub mod Running
pub mod Agree
pub mod Weighted
pub mod Lowest
pub mod Told
