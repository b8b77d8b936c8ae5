use Rattle.std.proofs.Common.{sym, rules}
use Rattle.node_exports.proofs.AnswerLemmas.{not_done}
use Rattle.node_exports.proofs.handling.casnode_handle.Goals as goal
use Rattle.node_exports.proofs.handling.casnode_handle.Goals.{in-Ok, in-Err}

pub returns-clause-handled : goal.returns-clause-handled
returns-clause-handled c = elim c.match-handle_frames.branch [
  | in-Ok w ↦ λ _. (
    c.in-Some.held.value,
    sym c.in-Some.ensures.value,
    (
      c.handle_frames.new.self,
      search rules,
      (w.in-Ok.handled, search rules, search rules, search rules),
    ),
  )
  | in-Err w ↦ λ e. absurd (not_done w.in-Err.error (search rules))
]

pub returns-clause-stopped : goal.returns-clause-stopped
returns-clause-stopped c = elim c.match-handle_frames.branch [
  | in-Ok w ↦ λ n _. absurd (n w.answer-is)
  | in-Err w ↦ λ _ _. (
    c.in-Some.held.value,
    sym c.in-Some.ensures.value,
    (
      c.handle_frames.new.self,
      search rules,
      (w.in-Err.error, search rules, search rules, search rules, search rules),
    ),
  )
]
