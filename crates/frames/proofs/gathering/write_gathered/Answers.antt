use Rattle.std.proofs.Common.{◌++◌, sym}
use Rattle.std.specs.List.{concat}
use Rattle.std.proofs.lemmas.Result.{err_from_is_err_and}
use Rattle.frames.proofs.WriteSequenceLemmas.{lost, Writes_as, Writes_lost, Writes_then}
use Rattle.frames.proofs.gathering.write_gathered.Goals as goal

pub returns-in_err-write_parts : goal.returns-in_err-write_parts
returns-in_err-write_parts g c =
    let p = err_from_is_err_and c.from_residual.result c.from_residual.ensures.1 in
    let error = c.in_err-write_parts.field-0.0 in
    let parts = concat c.parts.result.0.now in
    let last = c.parts.result.1.now in
    rw p.1 (Writes_as _ _ (lost (Unit {0}) error) (parts ++ last) c.args.bytes.now (sym c.parts.ensures)
    (Writes_lost (Unit {0}) (Unit {0}) _ _ error parts last c.in_err-write_parts.ensures))

pub returns : goal.returns
returns g c =
    let parts = concat c.parts.result.0.now in
    let last = c.parts.result.1.now in
    Writes_as _ _ c.write_bytes.result (parts ++ last) c.args.bytes.now (sym c.parts.ensures)
    (Writes_then _ _ _ (tt {0}) c.write_bytes.result parts last c.in_ok-write_parts.ensures c.write_bytes.ensures)
