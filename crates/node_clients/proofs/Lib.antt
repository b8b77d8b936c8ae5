pub mod ErrorFittingLemmas
pub mod FittingLemmas
pub mod TellLemmas
pub mod ServedLemmas
pub mod EndLemmas
pub mod WaitLemmas
