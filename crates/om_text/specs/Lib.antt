pub mod Fault
pub mod Parsed
pub mod Part
pub mod Steps
pub mod Reading
pub mod ReaderParts
