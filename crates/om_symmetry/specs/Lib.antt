pub mod Permutations
pub mod Table
