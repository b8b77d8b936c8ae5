pub mod ArrivalLemmas
pub mod LayoutLemmas
pub mod NumberLemmas
pub mod PartLemmas
pub mod RecordLemmas
