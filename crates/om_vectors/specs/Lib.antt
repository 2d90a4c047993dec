pub mod WholeVectors
pub mod Realizations
pub mod Words
pub mod Balance
