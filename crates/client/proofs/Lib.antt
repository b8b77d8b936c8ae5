pub mod RefusalCauseLemmas
pub mod CallerRoundLemmas
