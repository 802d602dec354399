pub mod Spaces
pub mod Lent
pub mod Arcing
pub mod Closing
pub mod Transitioning
pub mod Passing
