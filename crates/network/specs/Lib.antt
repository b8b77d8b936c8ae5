pub mod Unstamped
pub mod Worlds
pub mod Events
pub mod Premises
pub mod Following
pub mod Followed
pub mod Laws
