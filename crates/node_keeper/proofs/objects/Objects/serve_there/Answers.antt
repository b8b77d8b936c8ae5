use Rattle.std.proofs.Common.{◌≡◌, Some, nat_eq, rules}
use Rattle.std.specs.Cmp.Lexicographic.{pointwise}
use Rattle.indexmap.specs.IndexMap.{get}
use Rattle.node_keeper.proofs.NewObjectLemmas.{told_there}
use Rattle.node_keeper.proofs.objects.Objects.serve_there.Goals as goal

pub returns-in-Some-clause-done : goal.returns-in-Some-clause-done
returns-in-Some-clause-done c = search rules

pub returns-in-Some-clause-told : goal.returns-in-Some-clause-told
returns-in-Some-clause-told c =
    let map = c.get_mut.follows.lender c.served.new.object in
    let there : get (pointwise nat_eq) map c.args.name.now ≡ Some c.served.new.object = search rules in
    told_there c.served.result (record c.args.self.now { by_name = map }) c.args.name.now c.served.new.object there c.served.ensures.told
