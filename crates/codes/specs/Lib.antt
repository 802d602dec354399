-- The meaning.
pub mod Codes
