pub mod Arcs
pub mod Files
pub mod Rows
pub mod RoundTrip
pub mod Written
pub mod Appending
pub mod OneFile
