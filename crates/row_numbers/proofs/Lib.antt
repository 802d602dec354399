pub mod Numbering
pub mod Rows
pub mod Walking
pub mod Effects
pub mod Tabled
pub mod Seeking
pub mod Marking
