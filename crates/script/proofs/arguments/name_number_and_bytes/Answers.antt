use Rattle.std.proofs.Common.{ℕ, List, inl, inr, refl, subst, arith}
use Rattle.words.specs.Hexadecimal.{IsHexadecimal}
use Rattle.words.specs.Number.{IsNumber}
use Rattle.script.proofs.NumberWordLemmas.{err_of, no_second, third_word, three_words}
use Rattle.script.proofs.arguments.name_number_and_bytes.Goals as goal

pub returns-in_err-bytes-in-len3-clause-err : goal.returns-in_err-bytes-in-len3-clause-err
returns-in_err-bytes-in-len3-clause-err c =
    err_of _ _ _ c.from_residual-in_err-bytes-in-len3.ensures.1 (elim c.in_err-bytes-in-len3.ensures.err [
      | inl memory ↦ inl memory
      | inr bad ↦ inr (
        bad.0,
        λ name n bytes h. let P : List ℕ → Type 0 = λ w. IsHexadecimal w bytes in
            bad.1 bytes (subst P (third_word c.args.words.now _ refl name h.0 h.1 _ h.2) h.4),
      )
    ])

pub returns-in_err-number-in-len3-clause-err : goal.returns-in_err-number-in-len3-clause-err
returns-in_err-number-in-len3-clause-err c = err_of _ _ _ c.from_residual.ensures.1 (inr (
  c.in_err-number-in-len3.ensures.err.0,
  λ name n bytes h. no_second c.args.words.now _ refl (λ w. IsNumber w n) (c.in_err-number-in-len3.ensures.err.1 n) name h.0 _ h.2 h.3,
))

pub returns-in_ok-bytes-in-len3-clause-ok : goal.returns-in_ok-bytes-in-len3-clause-ok
returns-in_ok-bytes-in-len3-clause-ok c =
    (_, _, three_words c.args.words.now _ (omega arith), c.in_ok-number-in-len3.ensures.ok, c.in_ok-bytes-in-len3.ensures.ok)
