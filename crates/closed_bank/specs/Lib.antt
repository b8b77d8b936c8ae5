pub mod ClosedBank
pub mod Serve
pub mod Restore
