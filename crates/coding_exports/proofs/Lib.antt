pub mod RefusalTextLemmas
