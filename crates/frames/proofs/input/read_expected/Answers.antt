use Rattle.std.proofs.Common.{arith, rules}
use Rattle.std.proofs.lemmas.Result.{err_from_is_err_and}
use Rattle.frames.proofs.ReadByteLemmas.{expected_err, expected_other, expected_same}
use Rattle.frames.proofs.input.read_expected.Goals as goal

pub returns-in_err-byte : goal.returns-in_err-byte
returns-in_err-byte g c =
    let p = err_from_is_err_and c.from_residual.result c.from_residual.ensures.1 in
    rw (p.1, p.2) (expected_err c.args.expected c.args.fault _ _ c.in_err-byte.field-0.0 c.in_err-byte.ensures)

pub returns-then-byte-expected : goal.returns-then-byte-expected
returns-then-byte-expected g c = expected_other c.args.expected c.args.fault _ _ c.in_ok-byte.byte c.in_ok-byte.ensures (search rules)

pub returns : goal.returns
returns g c = expected_same c.args.expected c.args.fault _ _ c.in_ok-byte.byte c.in_ok-byte.ensures (omega arith)
