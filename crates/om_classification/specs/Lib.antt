pub mod Requests
pub mod Documents
pub mod Texts
pub mod Lists
pub mod Progress
pub mod Runs
pub mod LeastMaps
pub mod Answers
