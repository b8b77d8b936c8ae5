use Rattle.std.proofs.Common.{arith, inr, refl}
use Rattle.script.proofs.NumberWordLemmas.{AreNumbers-more, AreNumbers-none, err_of}
use Rattle.script.proofs.values.numbers.Goals as goal

pub returns-in_err-number-clause-err : goal.returns-in_err-number-clause-err
returns-in_err-number-clause-err c =
    err_of _ _ _ c.from_residual.ensures.1
    (inr (
      c.in_err-number.ensures.err.0,
      AreNumbers-none c.args.words.now c.loop-word.word-index _ refl (omega arith)
          c.in_err-number.ensures.err.1,
    ))

pub loop-word-preserved : goal.loop-word-preserved
loop-word-preserved c = rw c.in_ok-push.ensures.items
    (AreNumbers-more c.args.words.now c.loop-word.word-index _ c.loop-word.numbers.items c.in_ok-number.field-0 refl (omega arith)
    c.loop-word.invariant c.in_ok-number.ensures.ok)
