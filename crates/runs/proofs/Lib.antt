pub mod Laying
pub mod Joining
pub mod Merging
pub mod Inserting
