-- The value of each tag.
pub mod KnownTagLemmas
pub mod ReadValueLemmas
pub mod SentTagLemmas
pub mod SentValueLemmas
pub mod TagNumberLemmas
pub mod WrittenTagLemmas
