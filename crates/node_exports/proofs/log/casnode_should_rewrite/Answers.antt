use Rattle.std.proofs.Common.{sym, subst, rules}
use Rattle.node_store.specs.Rewriting.{HasGrown}
use Rattle.node_handle.specs.declared.embedded.Embedded.{Embedded}
use Rattle.node_exports.specs.Nodes.{Has}
use Rattle.node_exports.proofs.AdviceLemmas.{advised}
use Rattle.node_exports.proofs.log.casnode_should_rewrite.Goals as goal

pub returns-clause-asked : goal.returns-clause-asked
returns-clause-asked c =
    λ _. (c.in-Some.held.value, sym c.in-Some.ensures.value, (c.should_rewrite.new.self, search rules, (search rules, search rules)))

pub returns-clause-worth : goal.returns-clause-worth
returns-clause-worth c =
    λ _. advised c.should_rewrite.result c.from.result
    (Has c.args.node.now (λ (it : Embedded). HasGrown it.core.asked it.core.end.length)) (search rules)
    (λ is. (
      c.in-Some.held.value,
      sym c.in-Some.ensures.value,
      subst (λ (it : Embedded). HasGrown it.core.asked it.core.end.length) c.deref_mut.ensures.value
          (c.should_rewrite.ensures.grown is),
    ))
