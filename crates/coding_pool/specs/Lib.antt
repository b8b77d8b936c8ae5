pub mod Jobs
pub mod Worker
pub mod Pool
