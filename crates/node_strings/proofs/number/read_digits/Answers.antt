use Rattle.std.proofs.lemmas.Result.{err_from_is_err_and}
use Rattle.node_strings.proofs.NumberLemmas.{digits_go_on, digits_stop_at, digits_end_at}
use Rattle.node_strings.proofs.number.read_digits.Goals as goal

pub returns-in_err-number-clause-exact : goal.returns-in_err-number-clause-exact
returns-in_err-number-clause-exact g c =
    let p = err_from_is_err_and c.from_residual.result c.from_residual.ensures.1 in
    rw (p.1, p.2) (digits_stop_at c.args.bad c.args.above c.args.most c.args.first c.loop-byte.number c.loop-byte.byte-index
    c.in_err-number.field-0.0 c.args.bytes.now c.loop-byte-test.true c.in_err-number.ensures.exact c.loop-byte.invariant.0)

pub loop-byte-preserved : goal.loop-byte-preserved
loop-byte-preserved g c = (
  digits_go_on c.args.bad c.args.above c.args.most c.args.first c.loop-byte.number c.in_ok-number.number c.loop-byte.byte-index
      c.args.bytes.now c.loop-byte-test.true c.in_ok-number.ensures.exact c.loop-byte.invariant.0,
  c.in_ok-number.ensures.within,
)

pub returns-clause-exact : goal.returns-clause-exact
returns-clause-exact g c =
    digits_end_at c.args.bad c.args.above c.args.most c.args.first c.loop-byte.number c.loop-byte.byte-index
    c.args.bytes.now c.loop-byte-test.false c.loop-byte.invariant.0
