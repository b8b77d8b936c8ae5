pub mod DistinctMemberLemmas
mod MarkedPlaceLemmas
pub mod QuorumLemmas
