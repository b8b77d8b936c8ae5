pub mod HexadecimalLemmas
pub mod PartLemmas
pub mod DigitLemmas
pub mod LineSplitLemmas
