use Rattle.std.proofs.Common.{ap, ◌∙◌, Some, rules}
use Rattle.node_handle.specs.declared.embedded.Embedded.{Embedded}
use Rattle.node_exports.proofs.AnswerLemmas.{not_done}
use Rattle.node_exports.proofs.lives.casnode_open.Goals as goal

pub returns-in-Ok-new-clause-opened : goal.returns-in-Ok-new-clause-opened
returns-in-Ok-new-clause-opened c =
    λ _. (
      c.in-Ok.embedded,
      c.put-in-Ok-new.ensures ∙ ap (λ (it : Embedded). Some it) c.in-Ok-new.ensures.ok,
      c.in-Ok.ensures.opened,
    )

pub returns-clause-opened : goal.returns-clause-opened
returns-clause-opened c = λ e. absurd (not_done c.in-Err.error (search rules))
