pub mod Totals
pub mod Listing
pub mod Placing
pub mod Tokening
