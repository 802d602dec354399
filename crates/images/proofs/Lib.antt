pub mod Imaging
pub mod Replying
