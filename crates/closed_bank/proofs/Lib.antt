pub mod GreatestTagLemmas
pub mod ClosedBankLemmas
