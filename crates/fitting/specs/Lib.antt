pub mod Calls
pub mod Events
pub mod Laws
pub mod Letters
pub mod Objects
pub mod Outcomes
pub mod Reading
pub mod Restoring
