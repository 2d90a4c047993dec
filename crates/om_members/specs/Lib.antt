pub mod Vectors
pub mod Listings
pub mod Positions
pub mod Scans
