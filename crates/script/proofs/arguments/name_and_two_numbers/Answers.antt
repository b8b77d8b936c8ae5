use Rattle.std.proofs.Common.{ℕ, List, refl, subst, arith}
use Rattle.words.specs.Number.{IsNumber}
use Rattle.script.proofs.NumberWordLemmas.{err_of, no_second, third_word, three_words}
use Rattle.script.proofs.arguments.name_and_two_numbers.Goals as goal

pub returns-in_err-number-in-len3-2-clause-err : goal.returns-in_err-number-in-len3-2-clause-err
returns-in_err-number-in-len3-2-clause-err c =
    err_of _ _ _ c.from_residual-in_err-number-in-len3-2.ensures.1 (
      c.in_err-number-in-len3-2.ensures.err.0,
      λ name n m h. let P : List ℕ → Type 0 = λ w. IsNumber w m in
          c.in_err-number-in-len3-2.ensures.err.1 m (subst P (third_word c.args.words.now _ refl name h.0 h.1 _ h.2) h.4),
    )

pub returns-in_err-number-in-len3-clause-err : goal.returns-in_err-number-in-len3-clause-err
returns-in_err-number-in-len3-clause-err c = err_of _ _ _ c.from_residual.ensures.1 (
  c.in_err-number-in-len3.ensures.err.0,
  λ name n m h. no_second c.args.words.now _ refl (λ w. IsNumber w n) (c.in_err-number-in-len3.ensures.err.1 n) name h.0 _ h.2 h.3,
)

pub returns-in_ok-number-in-len3-2-clause-ok : goal.returns-in_ok-number-in-len3-2-clause-ok
returns-in_ok-number-in-len3-2-clause-ok c =
    (_, _, three_words c.args.words.now _ (omega arith), c.in_ok-number-in-len3.ensures.ok, c.in_ok-number-in-len3-2.ensures.ok)
