pub mod Cost
pub mod CostLines
pub mod Fault
pub mod Played
pub mod Program
pub mod Request
pub mod Shown
