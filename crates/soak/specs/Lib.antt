pub mod Closed
pub mod Made
