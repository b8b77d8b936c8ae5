pub mod Starts
pub mod Reading
pub mod Laws
