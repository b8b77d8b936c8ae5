use Rattle.std.proofs.Common.{rules}
use Rattle.std.proofs.lemmas.Result.{err_from_is_err_and}
use Rattle.frames.proofs.ReadFrameLemmas.{frame_none, frame_some, frame_err, frame_bad}
use Rattle.frames.proofs.reading.read_next.Goals as goal

pub returns-in-Ok-None : goal.returns-in-Ok-None
returns-in-Ok-None g c =
    let end = rw c.in-Ok-None.field-0-is at c.in-Ok-None.ensures in
    frame_none _ _ end.0 end.1

pub returns-in_err-read_array-in-Ok-Some-eq42 : goal.returns-in_err-read_array-in-Ok-Some-eq42
returns-in_err-read_array-in-Ok-Some-eq42 g c =
    let p = err_from_is_err_and c.from_residual.result c.from_residual.ensures.1 in
    let arm = c.in-Ok-Some-eq42 in
    rw (p.1, p.2) (frame_err _ _ _ arm.field-0-0 c.in_err-read_array-in-Ok-Some-eq42.field-0.0
    (rw c.in-Ok-Some-eq42.field-0-is at c.in-Ok-Some-eq42.ensures) (search rules) c.in_err-read_array-in-Ok-Some-eq42.ensures)

pub returns-in_ok-read_array-in-Ok-Some-eq42 : goal.returns-in_ok-read_array-in-Ok-Some-eq42
returns-in_ok-read_array-in-Ok-Some-eq42 g c =
    frame_some _ _ _ c.in-Ok-Some-eq42.field-0-0 c.in_ok-read_array-in-Ok-Some-eq42.field-0
    (rw c.in-Ok-Some-eq42.field-0-is at c.in-Ok-Some-eq42.ensures) (search rules) c.in_ok-read_array-in-Ok-Some-eq42.ensures

pub returns-in-Ok-Some : goal.returns-in-Ok-Some
returns-in-Ok-Some g c =
    frame_bad _ _ c.in-Ok-Some.field-0-0 (rw c.in-Ok-Some.field-0-is at c.in-Ok-Some.ensures) (search rules)
