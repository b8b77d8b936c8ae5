use Rattle.std.proofs.Common.{ℕ, List, length, ap, ◌∙◌}
use Rattle.piece.specs.declared.piece.Piece.{Piece}
use Rattle.encoder.proofs.PointSumLemmas.{fragment-alone}
use Rattle.encoder.proofs.block.piece.Goals as goal

pub returns-clause-piece : goal.returns-clause-piece
returns-clause-piece c =
    let value = c.args.value.now in
    let made = c.in_ok-fragments_from in
    ap (λ (bs : List ℕ). let p : Piece = record { point = c.args.i; len = length value; bytes = bs } in p)
    (c.in_ok-from_vec.ensures.ok ∙ fragment-alone made.field-0.items c.args.k c.args.i value made.ensures.len made.ensures.fragments)
