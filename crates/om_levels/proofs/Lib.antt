pub mod PackedSigns
pub mod Rows
pub mod Images
pub mod Places
pub mod Covering
