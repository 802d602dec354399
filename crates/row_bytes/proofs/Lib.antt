pub mod RowBytes
pub mod Bounded
