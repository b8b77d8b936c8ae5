pub mod Members
pub mod Reached
pub mod Steps
pub mod Values
