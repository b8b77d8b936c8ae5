pub mod TickLemmas
pub mod FailureLemmas
pub mod StopLemmas
pub mod StartLemmas
