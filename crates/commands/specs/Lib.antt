pub mod CommandLine
pub mod Request
