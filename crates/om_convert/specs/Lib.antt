pub mod Hitting
pub mod Ranks
pub mod Limits
pub mod Gathering
pub mod Reading
