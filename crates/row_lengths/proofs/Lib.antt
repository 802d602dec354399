pub mod Ranges
pub mod Values
pub mod MostRead
pub mod MostArcs
pub mod MostRows
