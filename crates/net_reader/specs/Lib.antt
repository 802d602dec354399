-- The meaning.
pub mod Sizes
pub mod Heads
pub mod Replies
