use Rattle.std.proofs.Common.{List, ℕ, Some, Ok, Err, subst}
use Rattle.node.specs.Recovering.{CarriesOutEntry}
use Rattle.node_store.specs.Recovery.{HasRecovered}
use Rattle.node_core.proofs.OpeningLemmas.{opened_so}
use Rattle.node_core.proofs.opening.open_with.Goals as goal

pub returns-in-Ok : goal.returns-in-Ok
returns-in-Ok c = λ names number is_new.
    opened_so names number c.args.log.now c.args.node c.recover_machine.new.machine c.in-Ok.end
    c.saturating_sub-cut.result c.begin.result is_new
    (subst (λ (t : List ℕ). HasRecovered CarriesOutEntry c.args.node c.recover_machine.new.machine (Some t) (Ok c.in-Ok.end))
    c.new.ensures c.in-Ok.ensures)
    c.saturating_sub-cut.ensures c.begin.ensures

pub returns-in-Err : goal.returns-in-Err
returns-in-Err c = λ names number is_new. (
  c.args.node,
  c.recover_machine.new.machine,
  is_new,
  subst (λ (t : List ℕ). HasRecovered CarriesOutEntry c.args.node c.recover_machine.new.machine (Some t) (Err c.in-Err.error))
      c.new.ensures c.in-Err.ensures,
)
