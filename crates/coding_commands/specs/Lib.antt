pub mod Answer
pub mod Fault
pub mod Fragments
pub mod Output
pub mod Program
pub mod Request
