use Rattle.std.proofs.Common.{◌≡◌, ◌+◌, ◌<◌, All, vec_len}
use Rattle.crossbeam_queue.specs.Passes.{view}
use Rattle.coding_pool.specs.Worker.{IsWorker, IsHandedBack}
use Rattle.coding_pool.proofs.pool.gather.Given as goal

abbrev pub invariant-loop-answer : goal.invariant-loop-answer
invariant-loop-answer l = record {
  caller : IsWorker l.errand l.caller;
  part : 0 < (view l.caller.pass).parts;
  parts : (view l.caller.pass).parts + vec_len l.answers ≡ (view l.initial.caller.pass).parts + vec_len l.initial.answers;
  pushed : (view l.caller.pass).pushed ≡ (view l.initial.caller.pass).pushed;
  answers : All (λ a. IsHandedBack l.errand a) l.answers.items;
}

abbrev pub decreases-loop-answer : goal.decreases-loop-answer
decreases-loop-answer l = vec_len l.answers
