pub mod Answers
pub mod Calls
pub mod Connections
pub mod Desk
pub mod Services
pub mod Served
