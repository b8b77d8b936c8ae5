use Rattle.std.proofs.Common.{arith, refl}
use Rattle.words.specs.Number.{IsNumber}
use Rattle.script.proofs.NumberWordLemmas.{err_of, no_second, two_words}
use Rattle.script.proofs.arguments.name_and_number.Goals as goal

pub returns-in_err-number-in-len2-clause-err : goal.returns-in_err-number-in-len2-clause-err
returns-in_err-number-in-len2-clause-err c = err_of _ _ _ c.from_residual.ensures.1 (
  c.in_err-number-in-len2.ensures.err.0,
  λ name n h. no_second c.args.words.now _ refl (λ w. IsNumber w n) (c.in_err-number-in-len2.ensures.err.1 n) name h.0 _ h.1 h.2,
)

pub returns-in_ok-number-in-len2-clause-ok : goal.returns-in_ok-number-in-len2-clause-ok
returns-in_ok-number-in-len2-clause-ok c =
    (_, two_words c.args.words.now _ (omega arith), c.in_ok-number-in-len2.ensures.ok)
