use Rattle.std.proofs.Common.{◌≡◌, []}
use Rattle.crossbeam_queue.specs.Passes.{view, IsPassOf}
use Rattle.coding_pool.specs.Jobs.{known, PARTS}
use Rattle.coding_pool.proofs.jobs.push_all.Given as goal

abbrev pub invariant-loop-job : goal.invariant-loop-job
invariant-loop-job g l = record {
  pass : IsPassOf l.queue l.pass;
  pushed : view l.pass ≡ known PARTS l.job [];
}
