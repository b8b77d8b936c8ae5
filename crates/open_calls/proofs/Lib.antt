pub mod ListLemmas
pub mod OpenCallLemmas
pub mod CallsOfNodeLemmas
pub mod DistinctCallLemmas
pub mod TakenRepliesLemmas
