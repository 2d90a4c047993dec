pub mod BracketSizes
pub mod Certificates
pub mod Weights
pub mod Validity
pub mod Refusals
pub mod Tables
pub mod Verdicts
pub mod Forms
