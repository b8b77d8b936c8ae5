pub mod Opening
pub mod Locked
pub mod Callers
pub mod Refusals
