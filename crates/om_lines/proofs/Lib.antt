pub mod Scan
pub mod Digits
pub mod WordLines
pub mod OneWord
