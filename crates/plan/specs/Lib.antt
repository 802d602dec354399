-- What the code's own tables, lists and enums stand for.
pub mod internal
