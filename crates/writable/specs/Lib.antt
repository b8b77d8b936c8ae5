pub mod Keepers
pub mod Laws
pub mod Staying
pub mod Starting
