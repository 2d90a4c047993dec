pub mod Terms
pub mod Statements
pub mod Sides
pub mod Order
pub mod Walk
