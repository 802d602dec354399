-- What the code's own tables, lists and enums stand for. Contracts between functions and proofs cite these; no call for users does.
pub mod RowLists
pub mod Steps
pub mod Loops
pub mod Kinds
