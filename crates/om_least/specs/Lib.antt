pub mod Least
pub mod Beginnings
pub mod Triples
