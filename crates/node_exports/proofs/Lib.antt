pub mod AdviceLemmas
pub mod AnswerLemmas
