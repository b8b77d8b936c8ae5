use Rattle.std.proofs.Common.{ℕ, List, length, ap, ◌∙◌}
use Rattle.piece.specs.declared.piece.Piece.{Piece}
use Rattle.encoder.proofs.PointSumLemmas.{fragment-cut}
use Rattle.encoder.proofs.coded.piece_in.Goals as goal

pub returns : goal.returns
returns c =
    let value = c.args.value.now in
    ap (λ (bs : List ℕ). let p : Piece = record { point = c.args.i; len = length value; bytes = bs } in p)
    (c.in_ok-bytes.ensures.ok
    ∙ fragment-cut c.args.fragments.now c.args.n c.args.k c.args.i c.div_ceil-block_len.result value c.div_ceil-block_len.ensures
    c.requires.within c.requires.len c.requires.fragments)
