pub mod Numbers
pub mod BlockLines
pub mod Block
pub mod Claim
pub mod ClaimFault
pub mod BlockReading
