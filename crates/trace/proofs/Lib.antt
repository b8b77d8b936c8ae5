pub mod CappedSumLemmas
pub mod CostSumLemmas
pub mod PlayedScriptLemmas
pub mod ShownTextLemmas
