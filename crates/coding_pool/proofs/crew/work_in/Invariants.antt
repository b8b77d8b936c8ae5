use Rattle.std.proofs.Common.{◌≡◌, ◌+◌, ◌≤◌, All, vec_len}
use Rattle.std.specs.Prelude.{vec_capacity}
use Rattle.coding_pool.specs.Worker.{IsWorkerWithOnePart, IsHandedBack}
use Rattle.coding_pool.proofs.crew.work_in.Given as goal

abbrev pub invariant-loop-worker : goal.invariant-loop-worker
invariant-loop-worker g l = record {
  count : vec_len l.crew + vec_len l.started + vec_len l.answers ≡ vec_len l.initial.crew;
  started-room : vec_len l.initial.crew ≤ vec_capacity l.started;
  answers-room : vec_len l.initial.crew ≤ vec_capacity l.answers;
  crew : All (λ w. IsWorkerWithOnePart l.errand w) l.crew.items;
  started : All (λ h. h.promise ≡ l.errand) l.started.items;
  answers : All (λ a. IsHandedBack l.errand a) l.answers.items;
}

abbrev pub decreases-loop-worker : goal.decreases-loop-worker
decreases-loop-worker g l = vec_len l.crew
