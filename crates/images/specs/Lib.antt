-- The meaning.
pub mod Replies
