pub mod Held
pub mod Told
