pub mod CommandWordLemmas
pub mod FragmentLineLemmas
pub mod PieceWordLemmas
