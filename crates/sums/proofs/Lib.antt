pub mod Listing
pub mod Summing
