use Rattle.std.proofs.Common.{OnOk, rules, sym, subst}
use Rattle.node_strings.specs.declared.record.Record.{Record}
use Rattle.node.specs.Recovering.{CarriesOutRecord}
use Rattle.node.proofs.RecoveryLemmas.{take_carried}
use Rattle.node.proofs.node.Node.recover_deed.Goals as goal

pub returns-in_ok-it-in-Serve-clause-done : goal.returns-in_ok-it-in-Serve-clause-done
returns-in_ok-it-in-Serve-clause-done c = search rules

pub returns-in_ok-it-in-Take-clause-done : goal.returns-in_ok-it-in-Take-clause-done
returns-in_ok-it-in-Take-clause-done c =
    let old = c.args.self.now in
    let new = c.take_again.new.self in
    subst (λ (it : Record). OnOk c.take_again.result (CarriesOutRecord old it new)) (sym c.in-Take.is)
    (take_carried c.take_again.result old new c.in-Take.frame c.in_ok-it-in-Take.it c.requires c.in_ok-it-in-Take.ensures.read
    c.take_again.ensures.taken c.take_again.ensures.rest c.take_again.ensures.cluster)
