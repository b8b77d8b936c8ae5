pub mod Accounting
pub mod BaseLemmas
pub mod ListLemmas
pub mod PhaseStartLemmas
pub mod Quorums
pub mod Sound
pub mod StatusOrderLemmas
pub mod Values
