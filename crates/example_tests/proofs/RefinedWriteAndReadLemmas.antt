-- The whole runs.
use Rattle.std.proofs.Common.{◌++◌, le_refl, refl}
use Rattle.refinement.specs.Systems.{MayRunIn}
use Rattle.example_tests.specs.RecordExamples.{whole}
use Rattle.example_tests.specs.RefinedExamples.{AReadOfANewObject, AWriteAndARestart, read_asked, read_ended, read_settled, restarted}
use Rattle.example_tests.specs.RefinedExamples.{start, write, write_asked, write_ended, write_kept}
use Rattle.example_tests.proofs.RefinedReadLemmas as reading
use Rattle.example_tests.proofs.RunLemmas.{may_append}
use Rattle.example_tests.proofs.RefinedWriteLemmas as writing

restarts : MayRunIn whole (restarted writing.after_write) writing.after_write
restarts = (
  record {
    node = refl;
    delta = refl;
    start = le_refl 0;
    layouts = λ position layout e. e;
    first = refl;
    banks = λ position member layout known holds. refl;
    reports = refl;
    calls = refl;
    mover = λ moves position layout e. e;
  },
  tt,
)

pub write_worked : AWriteAndARestart
write_worked = (
  may_append write (restarted writing.after_write) start
      (may_append write_asked (write_kept ++ write_ended) start writing.asks
      (may_append write_kept write_ended writing.after_asked writing.keeps writing.ends)) restarts,
  refl,
)

pub read_worked : AReadOfANewObject
read_worked = (
  may_append read_asked (read_settled ++ read_ended) start reading.asks
      (may_append read_settled read_ended reading.after_query reading.settles reading.ends),
  reading.read_entry,
)
