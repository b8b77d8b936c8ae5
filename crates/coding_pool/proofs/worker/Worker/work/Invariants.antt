use Rattle.std.proofs.Common.{◌≡◌}
use Rattle.crossbeam_queue.specs.Passes.{view}
use Rattle.coding_pool.specs.Worker.{IsWorker}
use Rattle.coding_pool.proofs.worker.Worker.work.Given as goal

abbrev pub invariant-loop : goal.invariant-loop
invariant-loop g l = record {
  worker : IsWorker l.errand l.self;
  parts : (view l.self.pass).parts ≡ (view l.initial.self.pass).parts;
  pushed : (view l.self.pass).pushed ≡ (view l.initial.self.pass).pushed;
}
