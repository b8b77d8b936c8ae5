pub mod Work
pub mod Errors
pub mod Seen
pub mod Report
