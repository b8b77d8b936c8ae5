pub mod PastEndLemmas
mod ColumnSumLemmas
pub mod InterpolationLemmas
pub mod PointAndFragmentLemmas
pub mod RowTableLemmas
pub mod SummedValueLemmas
pub mod UniqueValueLemmas
pub mod ValuePrefixLemmas
mod WeightedSumLemmas
pub mod WholeBlockLemmas
