pub mod Decoded
pub mod Pieces
pub mod Padding
pub mod Parts
pub mod Rows
