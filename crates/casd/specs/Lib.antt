pub mod Request
pub mod Fault
pub mod Files
pub mod Opening
pub mod Program
pub mod Ending
pub mod Kills
