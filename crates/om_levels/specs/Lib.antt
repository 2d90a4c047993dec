pub mod Packing
pub mod Levels
pub mod Families
pub mod Steps
