pub mod GrowthLemmas
pub mod ErrorLemmas
