pub mod Vectors
pub mod Axioms
pub mod CovectorSets
pub mod Instances
pub mod Scans
pub mod Minimality
