pub mod Choices
pub mod Coding
pub mod Congruential
pub mod Driver
pub mod Rounds
pub mod WholeCalls
