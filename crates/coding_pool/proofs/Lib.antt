pub mod QueueRuleLemmas
pub mod PoppedJobLemmas
pub mod SortedPieceLemmas
