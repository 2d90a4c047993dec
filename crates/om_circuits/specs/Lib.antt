pub mod Vectors
pub mod Axioms
pub mod SignedSets
pub mod Instances
pub mod Scans
