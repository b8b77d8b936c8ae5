-- What is stored and mailed, step by step.
pub mod MailAfterStepLemmas
pub mod MailChangeLemmas
pub mod MessageBytesLemmas
pub mod RetiredBytesLemmas
pub mod StoredBytesLemmas
pub mod StoredChangeLemmas
