use Rattle.std.proofs.lemmas.Result.{err_from_is_err_and}
use Rattle.frames.proofs.ReadByteLemmas.{line_end_err, line_end_then}
use Rattle.frames.proofs.input.read_line_end.Goals as goal

pub returns-in_err-read_expected : goal.returns-in_err-read_expected
returns-in_err-read_expected g c =
    let p = err_from_is_err_and c.from_residual.result c.from_residual.ensures.1 in
    rw (p.1, p.2) (line_end_err _ _ c.in_err-read_expected.field-0.0 c.in_err-read_expected.ensures)

pub returns : goal.returns
returns g c =
    line_end_then _ _ _ c.in_ok-read_expected.field-0 c.read_expected-2.result c.in_ok-read_expected.ensures c.read_expected-2.ensures
