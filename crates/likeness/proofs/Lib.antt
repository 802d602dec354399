pub mod Standing
pub mod Answers
pub mod InBytes
pub mod Likeness
pub mod Calls
pub mod Firsts
