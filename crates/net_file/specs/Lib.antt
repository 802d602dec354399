-- The meaning.
pub mod NetFile
pub mod Limits
pub mod Formed
pub mod Examples
-- What the code's own tables, lists and enums stand for.
pub mod internal
