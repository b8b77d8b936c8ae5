pub mod OpenCalls
pub mod Queries
