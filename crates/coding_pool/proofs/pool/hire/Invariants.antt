use Rattle.std.proofs.Common.{◌≡◌, ◌-◌, All, vec_len}
use Rattle.crossbeam_queue.specs.Passes.{view, IsPassOf}
use Rattle.coding_pool.specs.Jobs.{known, PARTS}
use Rattle.coding_pool.specs.Worker.{IsWorkerWithOnePart}
use Rattle.coding_pool.proofs.pool.hire.Given as goal

abbrev pub invariant-loop-worker : goal.invariant-loop-worker
invariant-loop-worker l = record {
  pass : IsPassOf l.errand.jobs.now l.pass;
  view : view l.pass ≡ known (PARTS - l._worker) (view l.initial.pass).pushed (view l.initial.pass).popped;
  count : vec_len l.crew ≡ l._worker;
  crew : All (λ w. IsWorkerWithOnePart l.errand w) l.crew.items;
}
