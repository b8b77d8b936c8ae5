use Rattle.std.proofs.Common.{◌≡◌, ℕ, ◌+◌, ◌<◌, List, [], ◌∷◌, ◌++◌, length, get_or}
use Rattle.std.proofs.Common.{take, drop, append_assoc, append-nil, sym, ap, ◌∙◌, arith}
use Rattle.std.proofs.lemmas.List.{drop_more, take_min, drop_min}
use Rattle.std.proofs.Math.ListN.{drop_of_length-le}
use Rattle.piece.specs.declared.piece.Piece.{Piece}
use Rattle.coding_exports.specs.Pieces.{pieces_from}
use Rattle.coding_exports.proofs.decode.pieces.Goals as goal

-- a piece more, of the next point and the front of the rest
piece_more : (len fragment_len i : ℕ) (points rest : List ℕ) (pieces all : List Piece) → i < length points
    → pieces ++ pieces_from len fragment_len (drop i points) rest ≡ all
    → (pieces ++ record { point = get_or points i 0; len = len; bytes = take fragment_len rest } ∷ [])
    ++ pieces_from len fragment_len (drop (i + 1) points) (drop fragment_len rest) ≡ all
unfolding pieces_from
piece_more len fragment_len i points rest pieces all more kept =
    append_assoc pieces _ _ ∙ ap (λ ps. pieces ++ pieces_from len fragment_len ps rest) (sym (drop_more points i 0 more)) ∙ kept

pub loop-point-preserved : goal.loop-point-preserved
loop-point-preserved c =
    let len = c.args.fragment_len in
    let rest = c.loop-point.rest.now in
    let front = c.in_ok-copy_from_slice.ensures ∙ c.split_at.ensures.front ∙ ap (λ n. take n rest) c.min.ensures ∙ take_min len rest in
    let behind = c.split_at.ensures.back ∙ ap (λ n. drop n rest) c.min.ensures ∙ drop_min len rest in
    rw (c.in_ok-push.ensures.items, front, behind)
    (piece_more c.args.len len c.loop-point.point-index c.args.points.now rest _ _ (omega arith) c.loop-point.invariant)

pub returns : goal.returns
unfolding pieces_from
returns c =
    let none = drop_of_length-le c.args.points.now {i = c.loop-point.point-index} (omega arith) in
    sym (append-nil _) ∙ rw none at c.loop-point.invariant
