use Rattle.std.proofs.Common.{◌++◌, length}
use Rattle.std.proofs.lemmas.Result.{err_from_is_err_and}
use Rattle.frames.specs.Frame.{header, line_end}
use Rattle.frames.proofs.WriteSequenceLemmas.{lost, Writes_then, Writes_lost}
use Rattle.frames.proofs.writing.write_string.Goals as goal

pub returns-in_err-write_header : goal.returns-in_err-write_header
returns-in_err-write_header g c =
    let p = err_from_is_err_and c.from_residual.result c.from_residual.ensures.1 in
    let string = c.args.string.now in
    rw p.1 (Writes_lost (Unit {0}) (Unit {0}) _ _ c.in_err-write_header.field-0.0 (header 36 (length string)) (string ++ line_end)
    c.in_err-write_header.ensures)

pub returns-in_err-write_bytes : goal.returns-in_err-write_bytes
returns-in_err-write_bytes g c =
    let p = err_from_is_err_and c.from_residual-in_err-write_bytes.result c.from_residual-in_err-write_bytes.ensures.1 in
    let error = c.in_err-write_bytes.field-0.0 in
    let string = c.args.string.now in
    rw p.1 (Writes_then _ _ _ (tt {0}) (lost (Unit {0}) error) (header 36 (length string)) (string ++ line_end) c.in_ok-write_header.ensures
    (Writes_lost (Unit {0}) (Unit {0}) _ _ error string line_end c.in_err-write_bytes.ensures))

pub returns : goal.returns
returns g c =
    let string = c.args.string.now in
    Writes_then _ _ _ (tt {0}) c.write_line_end.result (header 36 (length string)) (string ++ line_end) c.in_ok-write_header.ensures
    (Writes_then _ _ _ (tt {0}) c.write_line_end.result string line_end c.in_ok-write_bytes.ensures c.write_line_end.ensures)
