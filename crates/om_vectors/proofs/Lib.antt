pub mod Identities
pub mod WordTables
pub mod Sizes
pub mod NumberSigns
pub mod TripleSigns
pub mod Triples
