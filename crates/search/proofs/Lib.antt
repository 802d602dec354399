pub mod Searching
pub mod Calling
