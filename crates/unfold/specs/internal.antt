-- What the code's own enum stands for.
pub mod Input
