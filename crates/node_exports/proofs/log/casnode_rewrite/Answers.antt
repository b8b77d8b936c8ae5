use Rattle.std.proofs.Common.{sym, rules}
use Rattle.node_exports.proofs.AnswerLemmas.{not_done}
use Rattle.node_exports.proofs.log.casnode_rewrite.Goals as goal
use Rattle.node_exports.proofs.log.casnode_rewrite.Goals.{in-Ok, in-Err}

pub returns-clause-anew : goal.returns-clause-anew
returns-clause-anew c = elim c.match-rewrite.branch [
  | in-Ok w ↦ λ _. (
    c.in-Some.held.value,
    sym c.in-Some.ensures.value,
    (
      c.rewrite.new.self,
      search rules,
      (w.in-Ok.is_given, search rules, search rules),
    ),
  )
  | in-Err w ↦ λ e. absurd (not_done w.in-Err.error (search rules))
]

pub returns-clause-refused : goal.returns-clause-refused
returns-clause-refused c = elim c.match-rewrite.branch [
  | in-Ok w ↦ λ n _. absurd (n w.answer-is)
  | in-Err w ↦ λ _ _. (
    c.in-Some.held.value,
    sym c.in-Some.ensures.value,
    (
      c.rewrite.new.self,
      search rules,
      (w.in-Err.error, search rules, search rules, search rules),
    ),
  )
]
