pub mod Audit
pub mod Setting
pub mod Summary
