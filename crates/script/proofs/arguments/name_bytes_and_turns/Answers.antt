use Rattle.std.proofs.Common.{ℕ, List, inl, inr, refl, subst, arith}
use Rattle.words.specs.Hexadecimal.{IsHexadecimal}
use Rattle.script.specs.Arguments.{AreTurns}
use Rattle.script.proofs.NumberWordLemmas.{err_of, no_rest_2, second_word, two_and_rest}
use Rattle.script.proofs.arguments.name_bytes_and_turns.Goals as goal

pub returns-in_err-bytes-in-len2-up-clause-err : goal.returns-in_err-bytes-in-len2-up-clause-err
returns-in_err-bytes-in-len2-up-clause-err c = err_of _ _ _ c.from_residual.ensures.1 (elim c.in_err-bytes-in-len2-up.ensures.err [
  | inl memory ↦ inl memory
  | inr bad ↦ inr (
    bad.0,
    λ name bytes n h. let P : List ℕ → Type 0 = λ w. IsHexadecimal w bytes in
        bad.1 bytes (subst P (second_word c.args.words.now _ refl name h.0 h.1 h.2) h.3),
  )
])

pub returns-in_err-turns-in-len2-up-clause-err : goal.returns-in_err-turns-in-len2-up-clause-err
returns-in_err-turns-in-len2-up-clause-err c = err_of _ _ _ c.from_residual-in_err-turns-in-len2-up.ensures.1 (inr (
  c.in_err-turns-in-len2-up.ensures.err.0,
  λ name bytes n h. no_rest_2 c.args.words.now (λ ws. AreTurns ws n) (c.in_err-turns-in-len2-up.ensures.err.1 n) name h.0 h.1 h.2 h.4,
))

pub returns-in_ok-turns-in-len2-up-clause-ok : goal.returns-in_ok-turns-in-len2-up-clause-ok
returns-in_ok-turns-in-len2-up-clause-ok c =
    (_, _, two_and_rest c.args.words.now _ (omega arith), c.in_ok-bytes-in-len2-up.ensures.ok, c.in_ok-turns-in-len2-up.ensures.ok)
