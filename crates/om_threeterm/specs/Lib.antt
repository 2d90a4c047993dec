pub mod Violations
pub mod Sets
