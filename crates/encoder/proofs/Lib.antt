pub mod ColumnLemmas
pub mod PointSumLemmas
pub mod RowPlaceLemmas
