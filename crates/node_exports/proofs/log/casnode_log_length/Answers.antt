use Rattle.std.proofs.Common.{sym, ap, ◌∙◌}
use Rattle.node_handle.specs.declared.embedded.Embedded.{Embedded}
use Rattle.node_exports.proofs.log.casnode_log_length.Goals as goal

pub returns-clause-length : goal.returns-clause-length
returns-clause-length c =
    λ _. (
      c.in-Some.held.value,
      sym c.in-Some.ensures.value,
      c.log_length.ensures ∙ ap (λ (it : Embedded). it.core.end.length) c.deref.ensures,
    )
