pub mod Call
pub mod Moves
pub mod Plan
pub mod Progress
