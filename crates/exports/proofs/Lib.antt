pub mod FollowsLemmas
pub mod FreeClientLemmas
pub mod ListLemmas
pub mod FlattenedPairLemmas
