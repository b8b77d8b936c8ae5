use Rattle.std.proofs.Common.{◌≡◌, ℕ, List, inl, inr, rules, sym, subst}
use Rattle.std.specs.List.{after_first, before_first}
use Rattle.words.specs.Hexadecimal.{IsHexadecimal}
use Rattle.words.specs.Number.{IsNumber}
use Rattle.coding_commands.specs.Request.{is_colon}
use Rattle.coding_commands.proofs.PieceWordLemmas.{err_of}
use Rattle.coding_commands.proofs.request.parse_piece.Goals as goal

pub returns-in_err-point : goal.returns-in_err-point
returns-in_err-point c =
    let before : c.in-Some.point.now ≡ before_first is_colon c.args.word.now = search rules in
    err_of _ _ _ _ c.from_residual.ensures.1
    (inr (
      c.in_err-point.ensures.0,
      λ p is.
          let P : List ℕ → Type 0 = λ w. IsNumber w p.point in
          c.in_err-point.ensures.1 p.point (subst P (sym before) is.point),
    ))

pub returns-in_err-bytes : goal.returns-in_err-bytes
returns-in_err-bytes c =
    let after : c.in-Some.digits.now ≡ after_first is_colon c.args.word.now = search rules in
    err_of _ _ _ _ c.from_residual-in_err-bytes.ensures.1 (elim c.in_err-bytes.ensures [
      | inl memory ↦ inl memory
      | inr bad ↦ inr (
        bad.0,
        λ p is.
            let P : List ℕ → Type 0 = λ w. IsHexadecimal w p.bytes in
            bad.1 p.bytes (subst P (sym after) is.bytes),
      )
    ])
