-- What a node tells of a bank.
use Rattle.std.proofs.Common.{◌≡◌, ℕ, Bool, true, cond, List, [], Option, Some, sym, ap, ◌∙◌}
use Rattle.std.specs.FinMap as map
use Rattle.tag.specs.Tag.{opening_tag, tag_cmp}
use Rattle.tag.proofs.TagOrderLemmas.{eq_by_cmp-tag, tag_cmp_total, tag_eq-same}
use Rattle.bank.specs.Bank.{empty_piece, opened_bank, opening_row, piece_of, piece_of_row}
use Rattle.bank.specs.Serve.{greatest_final}
use Rattle.bank.specs.declared.row.Row.{Row}
use Rattle.bank.specs.declared.status.Status.TheVariants.{Unset}
use Rattle.letter.specs.declared.telling.Telling.{Telling}
use Rattle.local_object.specs.Reports.{piece_if, telling_if}
use Rattle.piece.specs.declared.piece.Piece.{Piece}
use Rattle.tag.specs.declared.tag.Tag.{Tag}
use Rattle.bank.proofs.GreatestTagLemmas.{greatest-opened}

-- a newly opened bank keeps the piece of the empty value
pub opened_piece : (member : ℕ) (delta : Option ℕ) →
    piece_of (opened_bank member delta 0) (greatest_final (opened_bank member delta 0)) ≡ Some (empty_piece member)
opened_piece member delta =
    let none = map.empty {X = Row} {R = tag_cmp} in
    ap (piece_of (opened_bank member delta 0)) (greatest-opened member delta 0)
    ∙ ap piece_of_row (map.get-insert tag_cmp_total none opening_tag (opening_row member 0) opening_tag)
    ∙ ap (λ b. piece_of_row (cond b (Some (opening_row member 0)) (map.get none opening_tag)))
    (eq_by_cmp-tag opening_tag opening_tag ∙ tag_eq-same opening_tag)

pub opened_if : (member : ℕ) (delta : Option ℕ) (asks : Bool) → asks ≡ true → (bytes : List ℕ) → bytes ≡ [] →
    (let piece : Piece = record { point = member; len = 0; bytes = bytes } in Some piece) ≡ piece_if asks (opened_bank member delta 0)
opened_if member delta asks is bytes none =
    ap (λ bs. let piece : Piece = record { point = member; len = 0; bytes = bs } in Some piece) none
    ∙ sym (opened_piece member delta) ∙ sym (ap (λ b. piece_if b (opened_bank member delta 0)) is)

pub opened_tells : (member : ℕ) (delta : Option ℕ) (asks : Bool) (piece : Option Piece) →
    piece ≡ piece_if asks (opened_bank member delta 0) →
    (let telling : Telling = record { status = Unset; greatest = opening_tag; piece = piece } in telling)
    ≡ telling_if asks (opened_bank member delta 0)
opened_tells member delta asks piece is =
    ap (λ (p : Option Piece). let telling : Telling = record { status = Unset; greatest = opening_tag; piece = p } in telling) is
    ∙ ap (λ (g : Tag). let telling : Telling =
    record { status = Unset; greatest = g; piece = piece_if asks (opened_bank member delta 0) } in telling)
    (sym (greatest-opened member delta 0))
