pub mod Calls
pub mod Causes
pub mod Counted
pub mod Feed
pub mod Held
