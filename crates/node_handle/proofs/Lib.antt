pub mod CopyingLemmas
pub mod EmbeddedLemmas
pub mod HeldLemmas
