pub mod Minors
pub mod Dropped
