use Rattle.std.proofs.Common.{ℕ, List, inl, inr, refl, subst, arith}
use Rattle.words.specs.Hexadecimal.{IsHexadecimal}
use Rattle.script.proofs.NumberWordLemmas.{err_of, second_word, two_words}
use Rattle.script.proofs.arguments.name_and_bytes.Goals as goal

pub returns-in_err-bytes-in-len2-clause-err : goal.returns-in_err-bytes-in-len2-clause-err
returns-in_err-bytes-in-len2-clause-err c = err_of _ _ _ c.from_residual.ensures.1 (elim c.in_err-bytes-in-len2.ensures.err [
  | inl memory ↦ inl memory
  | inr bad ↦ inr (
    bad.0,
    λ name bytes h. let P : List ℕ → Type 0 = λ w. IsHexadecimal w bytes in
        bad.1 bytes (subst P (second_word c.args.words.now _ refl name h.0 _ h.1) h.2),
  )
])

pub returns-in_ok-bytes-in-len2-clause-ok : goal.returns-in_ok-bytes-in-len2-clause-ok
returns-in_ok-bytes-in-len2-clause-ok c = (_, two_words c.args.words.now _ (omega arith), c.in_ok-bytes-in-len2.ensures.ok)
