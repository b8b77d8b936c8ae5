-- The order by tags is a sequence of the entries.
pub mod AnsweredTagLemmas
pub mod EntryItemLemmas
pub mod EntrySequenceLemmas
pub mod ItemEntryLemmas
pub mod ItemSequenceLemmas
pub mod ListedCallLemmas
pub mod ObjectItemLemmas
pub mod SeenCallLemmas
pub mod TagSequenceLemmas
pub mod TaggedCallLemmas
