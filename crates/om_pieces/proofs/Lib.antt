pub mod Takes
pub mod Looks
pub mod Cutting
pub mod Feeding
pub mod GivingBack
pub mod Steps
