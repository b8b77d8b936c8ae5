use Rattle.std.proofs.Common.{inr}
use Rattle.casd.proofs.LogFaultLemmas.{file_other, opened_other}
use Rattle.casd.proofs.program.run_node.Goals as goal

pub returns-clause-runs : goal.returns-clause-runs
returns-clause-runs g c = inr (inr (
  c.in-Ok.file,
  c.in-Ok-open_log.log.kept,
  c.run_log-done.new.log.kept,
  c.in-Ok.ensures,
  rw (← c.in-Ok-open_log.ensures.found) (c.run_log-done.ensures.runs c.in-Ok.ensures.0.lawful),
  c.close_log.ensures.kept,
))

pub returns-in-Err-clause-failure : goal.returns-in-Err-clause-failure
returns-in-Err-clause-failure g c = λ three. absurd (file_other _ _ c.in-Err.fault c.in-Err.ensures three)

pub returns-in-Err-open_log-clause-failure : goal.returns-in-Err-open_log-clause-failure
returns-in-Err-open_log-clause-failure g c = λ three.
    absurd (opened_other c.in-Err-open_log.fault c.in-Err-open_log.ensures.fault three)

pub returns-clause-failure : goal.returns-clause-failure
returns-clause-failure g c = λ three. c.close_log.ensures.failure (c.run_log-done.ensures.failure.0 three)
