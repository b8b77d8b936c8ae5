use Rattle.std.proofs.Common.{refl, inl, inr}
use Rattle.casd.proofs.program.print_line.Goals as goal

pub returns-in-Ok : goal.returns-in-Ok
returns-in-Ok g c = inl (refl, c.in-Ok.ensures.bytes)

pub returns-in-Err : goal.returns-in-Err
returns-in-Err g c = inr c.report.ensures
