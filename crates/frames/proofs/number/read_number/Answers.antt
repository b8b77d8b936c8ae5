use Rattle.std.proofs.Common.{ℕ, sym}
use Rattle.std.proofs.lemmas.Result.{err_from_is_err_and}
use Rattle.frames.proofs.ReadNumberLemmas.{number_err, number_bad, number_from, number_digits_err, number_line_err, number_done}
use Rattle.frames.proofs.ReadSequenceLemmas.{fails, succeeds}
use Rattle.frames.proofs.number.read_number.Goals as goal

pub returns-in_err-byte-clause-exact : goal.returns-in_err-byte-clause-exact
returns-in_err-byte-clause-exact g c =
    let p = err_from_is_err_and c.from_residual.result c.from_residual.ensures.1 in
    rw (p.1, p.2) (number_err c.args.most c.args.above _ _ c.in_err-byte.field-0.0 c.in_err-byte.ensures)

pub returns-in_err-first-clause-exact : goal.returns-in_err-first-clause-exact
returns-in_err-first-clause-exact g c =
    let p = err_from_is_err_and c.from_residual-in_err-first.result c.from_residual-in_err-first.ensures.1 in
    rw (p.1, p.2) (number_bad c.args.most c.args.above _ _ c.in_ok-byte.byte c.in_err-first.field-0.0 c.in_ok-byte.ensures
    (sym c.in_err-first.ensures.exact))

pub returns-in_err-number-clause-exact : goal.returns-in_err-number-clause-exact
returns-in_err-number-clause-exact g c =
    let p = err_from_is_err_and c.from_residual-in_err-number.result c.from_residual-in_err-number.ensures.1 in
    rw (p.1, p.2) (number_from c.args.most c.args.above _ _ _ c.in_ok-byte.byte c.in_ok-first.first (fails ℕ c.in_err-number.field-0.0)
    c.in_ok-byte.ensures (sym c.in_ok-first.ensures.exact)
    (number_digits_err c.args.most c.args.above c.in_ok-first.first _ _ c.in_err-number.field-0.0 c.in_err-number.ensures.exact))

pub returns-in_err-read_expected-clause-exact : goal.returns-in_err-read_expected-clause-exact
returns-in_err-read_expected-clause-exact g c =
    let p = err_from_is_err_and c.from_residual-in_err-read_expected.result c.from_residual-in_err-read_expected.ensures.1 in
    rw (p.1, p.2) (number_from c.args.most c.args.above _ _ _ c.in_ok-byte.byte c.in_ok-first.first
    (fails ℕ c.in_err-read_expected.field-0.0)
    c.in_ok-byte.ensures (sym c.in_ok-first.ensures.exact)
    (number_line_err c.args.most c.args.above c.in_ok-first.first c.in_ok-number.number _ _ _ c.in_err-read_expected.field-0.0
    c.in_ok-number.ensures.exact c.in_err-read_expected.ensures))

pub returns-clause-exact : goal.returns-clause-exact
returns-clause-exact g c =
    number_from c.args.most c.args.above _ _ _ c.in_ok-byte.byte c.in_ok-first.first (succeeds c.in_ok-number.number)
    c.in_ok-byte.ensures (sym c.in_ok-first.ensures.exact)
    (number_done c.args.most c.args.above c.in_ok-first.first c.in_ok-number.number c.in_ok-read_expected.field-0 _ _ _
    c.in_ok-number.ensures.exact c.in_ok-read_expected.ensures)
