pub mod Readings
pub mod Triples
