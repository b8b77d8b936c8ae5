pub mod BegunStageLemmas
pub mod Phases
pub mod TagOrderLemmas
