pub mod Generator
pub mod Lists
pub mod Tallies
