-- A complete fetch has enough pieces.
pub mod CompleteFetchLemmas
pub mod FinalizedPieceLemmas
pub mod PieceCountLemmas
pub mod QuorumPieceLemmas
pub mod StagePieceLemmas
