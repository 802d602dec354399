pub mod Counting
pub mod Heads
pub mod HeadCases
