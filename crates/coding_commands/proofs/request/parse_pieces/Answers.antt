use Rattle.std.proofs.Common.{arith, inl, inr}
use Rattle.coding_commands.proofs.PieceWordLemmas.{SpellPieces-at, SpellPieces-more, err_of}
use Rattle.coding_commands.proofs.request.parse_pieces.Goals as goal

pub returns-in_err-parse_piece : goal.returns-in_err-parse_piece
returns-in_err-parse_piece c = err_of _ _ _ _ c.from_residual.ensures.1 (elim c.in_err-parse_piece.ensures [
  | inl memory ↦ inl memory
  | inr bad ↦ inr (
    bad.0,
    λ ps are.
        let found = SpellPieces-at c.args.len c.args.words.now ps c.loop-word.word-index _ are (omega arith) in bad.1 found.0 found.1,
  )
])

pub loop-word-preserved : goal.loop-word-preserved
loop-word-preserved c = rw c.in_ok-push.ensures.items
    (SpellPieces-more c.args.len c.args.words.now c.loop-word.word-index _ c.loop-word.pieces.items c.in_ok-parse_piece.field-0
    (omega arith) c.loop-word.invariant c.in_ok-parse_piece.ensures)
