-- What contracts between functions and proofs cite; no call for users does.
pub mod Reasons
pub mod Frame
