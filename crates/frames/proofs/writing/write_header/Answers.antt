use Rattle.std.proofs.Common.{[], ◌∷◌, ◌++◌}
use Rattle.std.specs.Fmt.{decimal}
use Rattle.std.proofs.lemmas.Result.{err_from_is_err_and}
use Rattle.frames.specs.Frame.{line_end}
use Rattle.frames.proofs.WriteSequenceLemmas.{lost, Writes_then, Writes_lost}
use Rattle.frames.proofs.writing.write_header.Goals as goal

pub returns-in_err-write_bytes : goal.returns-in_err-write_bytes
returns-in_err-write_bytes g c =
    let p = err_from_is_err_and c.from_residual.result c.from_residual.ensures.1 in
    rw p.1 (Writes_lost (Unit {0}) (Unit {0}) _ _ c.in_err-write_bytes.field-0.0 (c.args.mark ∷ []) (decimal c.args.number ++ line_end)
    c.in_err-write_bytes.ensures)

pub returns-in_err-write_number : goal.returns-in_err-write_number
returns-in_err-write_number g c =
    let p = err_from_is_err_and c.from_residual-in_err-write_number.result c.from_residual-in_err-write_number.ensures.1 in
    let error = c.in_err-write_number.field-0.0 in
    rw p.1 (Writes_then _ _ _ (tt {0}) (lost (Unit {0}) error) (c.args.mark ∷ []) (decimal c.args.number ++ line_end)
    c.in_ok-write_bytes.ensures
    (Writes_lost (Unit {0}) (Unit {0}) _ _ error (decimal c.args.number) line_end c.in_err-write_number.ensures))

pub returns : goal.returns
returns g c =
    Writes_then _ _ _ (tt {0}) c.write_line_end.result (c.args.mark ∷ []) (decimal c.args.number ++ line_end) c.in_ok-write_bytes.ensures
    (Writes_then _ _ _ (tt {0}) c.write_line_end.result (decimal c.args.number) line_end
    c.in_ok-write_number.ensures c.write_line_end.ensures)
