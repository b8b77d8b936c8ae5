pub mod Opening
pub mod Rounds
pub mod Rewriting
pub mod Starts
pub mod Laws
