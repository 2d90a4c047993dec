pub mod Coordinates
pub mod Masks
pub mod Numbers
pub mod Order
pub mod OrderLaws
pub mod Sign
pub mod SignVec
