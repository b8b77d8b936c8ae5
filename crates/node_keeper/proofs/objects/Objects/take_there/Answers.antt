use Rattle.std.proofs.Common.{◌≡◌, Some, nat_eq, option_to_list, rules}
use Rattle.std.specs.Cmp.Lexicographic.{pointwise}
use Rattle.indexmap.specs.IndexMap.{get}
use Rattle.node_keeper.specs.Objects.{IsChangedAt, objects_of}
use Rattle.node_keeper.specs.declared.objects.Objects.{Objects}
use Rattle.node_keeper.proofs.NewObjectLemmas.{if_ok_two, reply_at, told_there}
use Rattle.node_keeper.proofs.objects.Objects.take_there.Goals as goal

pub returns-in-Some-clause-done : goal.returns-in-Some-clause-done
returns-in-Some-clause-done c =
    let old = c.args.self.now in
    let new : Objects = record old { by_name = c.get_mut.follows.lender c.taken.new.object } in
    let name = c.args.name.now in
    let was : c.in-Some.object.now ≡ objects_of old name = search rules in
    let changed : IsChangedAt old name c.taken.new.object new = search rules in
    if_ok_two c.taken.result c.taken.ensures.done c.taken.ensures.taken (λ it done taken.
    reply_at old new name c.args.letter c.in-Some.object.now c.taken.new.object it.0.letters.items (option_to_list it.0.ended) was changed
    done taken)

pub returns-in-Some-clause-told : goal.returns-in-Some-clause-told
returns-in-Some-clause-told c =
    let map = c.get_mut.follows.lender c.taken.new.object in
    let there : get (pointwise nat_eq) map c.args.name.now ≡ Some c.taken.new.object = search rules in
    told_there c.taken.result (record c.args.self.now { by_name = map }) c.args.name.now c.taken.new.object there c.taken.ensures.told
