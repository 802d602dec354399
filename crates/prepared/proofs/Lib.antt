pub mod Listing
pub mod Packing
pub mod Starts
pub mod Tabled
pub mod Accepted
pub mod Known
pub mod Filling
