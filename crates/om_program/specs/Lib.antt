pub mod Meaning
pub mod Plans
pub mod ValidClaims
pub mod Run
pub mod Completeness
pub mod Statuses
pub mod Answered
pub mod Each
