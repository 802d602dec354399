-- The meaning.
pub mod Firing
pub mod Arcs
pub mod Calls
pub mod Replies
-- What the code's own tables, lists and enums stand for.
pub mod internal
