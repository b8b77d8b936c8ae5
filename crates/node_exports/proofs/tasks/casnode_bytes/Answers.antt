use Rattle.std.proofs.Common.{sym, arith, rules}
use Rattle.node_exports.proofs.tasks.casnode_bytes.Goals as goal
use Rattle.node_exports.proofs.tasks.casnode_bytes.Goals.{in-Some-task_at, in-None}

pub returns-clause-no_task : goal.returns-clause-no_task
returns-clause-no_task c = elim c.match-task_at.branch [
  | in-Some-task_at w ↦ λ e. absurd (omega (arith, e, w.answer-is))
  | in-None w ↦ λ _. (c.in-Some.held.value, sym c.in-Some.ensures.value, search rules)
]

pub returns-clause-bytes : goal.returns-clause-bytes
returns-clause-bytes c = elim c.match-task_at.branch [
  | in-Some-task_at w ↦ λ e.
      let written = w.write_task-answer.ensures.bytes (search rules) in
      (c.in-Some.held.value, sym c.in-Some.ensures.value, (search rules, search rules))
  | in-None w ↦ λ e. absurd (omega (arith, e, w.answer-is))
]

pub returns-clause-bad_buffer : goal.returns-clause-bad_buffer
returns-clause-bad_buffer c = elim c.match-task_at.branch [
  | in-Some-task_at w ↦ λ e.
      let differs = w.write_task-answer.ensures.bad_buffer (λ none. absurd (omega (arith, e, none, w.answer-is))) in
      (c.in-Some.held.value, sym c.in-Some.ensures.value, (search rules, λ same. differs (search rules)))
  | in-None w ↦ λ e. absurd (omega (arith, e, w.answer-is))
]
