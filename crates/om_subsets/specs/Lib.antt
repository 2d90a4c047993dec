pub mod Subsets
pub mod Lists
pub mod Members
pub mod Reverse
pub mod Sets
