use Rattle.std.proofs.Common.{◌≡◌, ℕ, ◌<◌, length, get_or}
use Rattle.gf256.specs.Polynomial.{AreBytes}
use Rattle.piece.specs.declared.piece.Piece.{Piece}
use Rattle.decoder.proofs.lawful.are_lawful.Given as goal

-- the pieces so far
abbrev pub invariant-loop-piece : goal.invariant-loop-piece
invariant-loop-piece l =
    record {
      lens : (m : ℕ) (d : Piece) → m < l.piece-index → (get_or l.pieces m d).len ≡ l.len;
      fragment_lens : (m : ℕ) (d : Piece) → m < l.piece-index → length (get_or l.pieces m d).bytes ≡ l.fragment_len;
      bytes : (m : ℕ) (d : Piece) → m < l.piece-index → AreBytes (get_or l.pieces m d).bytes;
    }
