pub mod EqualityMaskLemmas
pub mod HalfByteLemmas
mod HalfProductTableLemmas
pub mod LaneLemmas
pub mod LaneSumLemmas
pub mod LevelSumLemmas
pub mod LineLemmas
pub mod PolynomialValueLemmas
pub mod RowSumLemmas
