pub mod Map
pub mod Chirotope
pub mod ThreeTerm
pub mod Marks
pub mod Pictures
pub mod Blocks
pub mod Apart
pub mod Settlement
