-- The meaning.
pub mod Basics
pub mod Reading
pub mod Refusals
-- What contracts between functions and proofs cite alone.
pub mod internal
