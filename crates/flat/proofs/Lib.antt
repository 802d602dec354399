pub mod Calling
pub mod Imaged
pub mod Standing
