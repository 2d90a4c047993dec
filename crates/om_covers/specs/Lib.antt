pub mod Classes
pub mod Growing
pub mod Covers
