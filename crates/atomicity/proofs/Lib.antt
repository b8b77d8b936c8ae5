pub mod AtomicRunLemmas
pub mod Orders
pub mod Overlapping
pub mod Sequences
pub mod Stages
