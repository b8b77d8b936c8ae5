use Rattle.std.proofs.Common.{◌≡◌, ◌+◌, ◌≤◌, All, vec_len}
use Rattle.std.specs.Prelude.{vec_capacity}
use Rattle.coding_pool.specs.declared.worker.CodingJob.{CodingJob}
use Rattle.coding_pool.specs.Worker.{IsHandedBack}
use Rattle.coding_pool.proofs.crew.join_all.Given as goal

abbrev pub invariant-loop-handle : goal.invariant-loop-handle
invariant-loop-handle g l = record {
  count : vec_len l.started + vec_len l.answers ≡ vec_len l.initial.started + vec_len l.initial.answers;
  room : vec_len l.started + vec_len l.answers ≤ vec_capacity l.answers;
  answers : (errand : CodingJob) → All (λ h. h.promise ≡ errand) l.initial.started.items →
      All (λ a. IsHandedBack errand a) l.initial.answers.items →
      All (λ h. h.promise ≡ errand) l.started.items × All (λ a. IsHandedBack errand a) l.answers.items;
}

abbrev pub decreases-loop-handle : goal.decreases-loop-handle
decreases-loop-handle g l = vec_len l.started
