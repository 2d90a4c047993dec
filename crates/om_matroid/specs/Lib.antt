pub mod Bases
pub mod Search
