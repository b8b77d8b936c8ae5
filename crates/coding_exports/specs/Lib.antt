pub mod Answer
pub mod Pieces
