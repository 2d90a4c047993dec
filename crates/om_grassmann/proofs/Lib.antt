pub mod BracketLaws
pub mod Counting
pub mod Directions
pub mod Frames
pub mod Listed
pub mod OrderLaws
pub mod Places
pub mod Triples
