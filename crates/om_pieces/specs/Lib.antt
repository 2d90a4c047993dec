pub mod Pieces
pub mod SeenOfLine
pub mod Making
