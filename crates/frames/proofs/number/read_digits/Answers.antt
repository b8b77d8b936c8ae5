use Rattle.std.proofs.Common.{arith, sym, rules}
use Rattle.std.proofs.lemmas.Result.{err_from_is_err_and}
use Rattle.frames.proofs.ReadNumberLemmas.{digits_first_err, digits_init, digits_bad, digits_next_err, digits_preserved, digits_done}
use Rattle.frames.proofs.number.read_digits.Goals as goal

pub returns-in_err-byte-clause-exact : goal.returns-in_err-byte-clause-exact
returns-in_err-byte-clause-exact g c =
    let p = err_from_is_err_and c.from_residual.result c.from_residual.ensures.1 in
    rw (p.1, p.2) (digits_first_err c.args.most c.args.above c.args.first _ _ c.in_err-byte.field-0.0 c.in_err-byte.ensures)

pub loop-byte-init : goal.loop-byte-init
loop-byte-init g c = (c.requires, digits_init c.args.most c.args.above c.args.first _ _ c.in_ok-byte.byte c.in_ok-byte.ensures)

pub returns-in_err-number-clause-exact : goal.returns-in_err-number-clause-exact
returns-in_err-number-clause-exact g c =
    let p = err_from_is_err_and c.from_residual-in_err-number.result c.from_residual-in_err-number.ensures.1 in
    rw (p.1, p.2) (digits_bad c.args.most c.args.above c.args.first c.loop-byte.number c.loop-byte.byte c.in_err-number.field-0.0 _ _
    c.loop-byte.invariant.1 (search rules) (sym c.in_err-number.ensures.exact))

pub returns-in_err-byte-2-clause-exact : goal.returns-in_err-byte-2-clause-exact
returns-in_err-byte-2-clause-exact g c =
    let p = err_from_is_err_and c.from_residual-in_err-byte-2.result c.from_residual-in_err-byte-2.ensures.1 in
    rw (p.1, p.2) (digits_next_err c.args.most c.args.above c.args.first c.loop-byte.number c.loop-byte.byte c.in_ok-number.number _ _ _
    c.in_err-byte-2.field-0.0 c.loop-byte.invariant.1 (search rules) (sym c.in_ok-number.ensures.exact) c.in_err-byte-2.ensures)

pub loop-byte-preserved : goal.loop-byte-preserved
loop-byte-preserved g c = (
  c.in_ok-number.ensures.within,
  digits_preserved c.args.most c.args.above c.args.first c.loop-byte.number c.loop-byte.byte c.in_ok-number.number c.in_ok-byte-2.byte _ _ _
      c.loop-byte.invariant.1 (search rules) (sym c.in_ok-number.ensures.exact) c.in_ok-byte-2.ensures,
)

pub returns-clause-exact : goal.returns-clause-exact
returns-clause-exact g c =
    digits_done c.args.most c.args.above c.args.first c.loop-byte.number c.loop-byte.byte _ _ c.loop-byte.invariant.1 (omega arith)
