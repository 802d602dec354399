pub mod Limits
pub mod Trees
pub mod Formed
pub mod Refusals
pub mod Whole
pub mod Examples
pub mod Widths
