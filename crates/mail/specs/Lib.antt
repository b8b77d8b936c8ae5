pub mod Bounds
pub mod Complete
pub mod Mail
pub mod Message
pub mod Phase
