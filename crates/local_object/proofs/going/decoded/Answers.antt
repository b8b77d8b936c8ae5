use Rattle.std.proofs.Common.{List, Err, slice_get, refl, sym, ap, ◌∙◌}
use Rattle.piece.specs.declared.piece.Piece.{Piece}
use Rattle.local_object.proofs.FetchedLemmas.{empty_of, none_decoded, not_decoded}
use Rattle.local_object.proofs.going.decoded.Goals as goal

pub returns-in_default-clause-value : goal.returns-in_default-clause-value
returns-in_default-clause-value c = λ v.
    none_decoded c.args.k c.args.pieces.items v
    (sym c.deref.ensures.value ∙ empty_of c.deref.result.now c.in_default.ensures.value)

pub returns-in-Err-BadPieces-clause-value : goal.returns-in-Err-BadPieces-clause-value
returns-in-Err-BadPieces-clause-value c = λ v.
    not_decoded c.args.k c.in-Some.piece.now.len c.args.pieces.items c.in-Some.piece.now v
    (ap (λ (ps : List Piece). slice_get ps 0) (sym c.deref.ensures.value) ∙ sym c.in-Some.ensures.value) refl
    (c.in-Err-BadPieces.ensures.bad_pieces.0 (ap Err c.in-Err-BadPieces.field-0-is))
