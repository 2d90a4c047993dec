pub mod Possible
pub mod Existence
