use Rattle.std.proofs.Common.{refl, arith}
use Rattle.words.specs.Number.{IsNumber}
use Rattle.script.specs.Arguments.{AreDelta}
use Rattle.script.proofs.NumberWordLemmas.{err_of, no_rest_2, no_second, two_and_rest}
use Rattle.script.proofs.arguments.name_number_and_delta.Goals as goal

pub returns-in_err-number-in-len2-up-clause-err : goal.returns-in_err-number-in-len2-up-clause-err
returns-in_err-number-in-len2-up-clause-err c = err_of _ _ _ c.from_residual.ensures.1 (
  c.in_err-number-in-len2-up.ensures.err.0,
  λ name n d h. no_second c.args.words.now _ refl (λ w. IsNumber w n) (c.in_err-number-in-len2-up.ensures.err.1 n) name h.0 h.1 h.2 h.3,
)

pub returns-in_err-delta-in-len2-up-clause-err : goal.returns-in_err-delta-in-len2-up-clause-err
returns-in_err-delta-in-len2-up-clause-err c = err_of _ _ _ c.from_residual-in_err-delta-in-len2-up.ensures.1 (
  c.in_err-delta-in-len2-up.ensures.err.0,
  λ name n d h. no_rest_2 c.args.words.now (λ ws. AreDelta ws d) (c.in_err-delta-in-len2-up.ensures.err.1 d) name h.0 h.1 h.2 h.4,
)

pub returns-in_ok-delta-in-len2-up-clause-ok : goal.returns-in_ok-delta-in-len2-up-clause-ok
returns-in_ok-delta-in-len2-up-clause-ok c =
    (_, _, two_and_rest c.args.words.now _ (omega arith), c.in_ok-number-in-len2-up.ensures.ok, c.in_ok-delta-in-len2-up.ensures.ok)
