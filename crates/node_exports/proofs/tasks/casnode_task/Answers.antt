use Rattle.std.proofs.Common.{sym, rules}
use Rattle.node_exports.proofs.tasks.casnode_task.Goals as goal
use Rattle.node_exports.proofs.tasks.casnode_task.Goals.{in-Some-task_at, in-None}

pub returns-clause-task : goal.returns-clause-task
returns-clause-task c = elim c.match-task_at.branch [
  | in-Some-task_at w ↦ λ _. (c.in-Some.held.value, sym c.in-Some.ensures.value, (search rules, search rules))
  | in-None w ↦ λ _. (c.in-Some.held.value, sym c.in-Some.ensures.value, (search rules, search rules))
]
