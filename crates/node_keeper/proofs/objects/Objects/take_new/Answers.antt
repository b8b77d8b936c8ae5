use Rattle.std.proofs.Common.{◌≡◌, Some, nat_eq, rules}
use Rattle.std.specs.Cmp.Lexicographic.{pointwise}
use Rattle.indexmap.specs.IndexMap.{get}
use Rattle.node_keeper.proofs.NewObjectLemmas.{told_there}
use Rattle.node_keeper.proofs.objects.Objects.take_new.Goals as goal

pub returns-clause-told : goal.returns-clause-told
returns-clause-told c =
    let map = c.get_mut.follows.lender c.taken.new.object in
    let there : get (pointwise nat_eq) map c.args.name.now ≡ Some c.taken.new.object = search rules in
    told_there c.taken.result (record c.hear_of.new.self { by_name = map }) c.args.name.now c.taken.new.object there c.taken.ensures.told
