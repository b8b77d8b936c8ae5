use Rattle.std.proofs.Common.{◌≡◌, ℕ, ◌<◌, length, get_or}
use Rattle.piece.specs.declared.piece.Piece.{Piece}
use Rattle.kernels.proofs.LaneSumLemmas.{no_slice}
use Rattle.decoder.proofs.lawful.fill_fragments.Given as goal

-- the fragments so far
abbrev pub invariant-loop-i : goal.invariant-loop-i
invariant-loop-i l =
    record {
      len : length l.fragments ≡ length l.initial.fragments;
      done : (m : ℕ) (d : Piece) → m < l.i → (get_or l.fragments m no_slice).now ≡ (get_or l.pieces m d).bytes;
    }
