-- Where a read's fetch lacks pieces, writes overlap the read.
pub mod FinalizedWriteLemmas
pub mod GreaterTagLemmas
pub mod LastAttemptLemmas
pub mod OverlappingWriteLemmas
