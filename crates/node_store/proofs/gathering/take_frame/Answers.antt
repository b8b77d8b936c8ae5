use Rattle.std.proofs.Common.{◌≡◌, false, refl, subst, rules}
use Rattle.node_store.specs.Serving.{IsInputEnd}
use Rattle.node_store.proofs.GatheringLemmas.{none_taken}
use Rattle.node_store.proofs.gathering.take_frame.Goals as goal

pub returns-else-branch-clause-handles : goal.returns-else-branch-clause-handles
returns-else-branch-clause-handles g c =
    let none : c.in_ok-handle_next.field-0 ≡ false = search rules in
    let same = c.in_ok-handle_next.ensures.same none in
    none_taken g.M.Machine.handles g.M.Machine.notes c.args.machine.now c.handle_next.new.machine c.args.left.now.now
    c.args.left.now.now c.args.batch.now c.handle_next.new.batch refl same.0 same.1

pub returns-else-branch-clause-ended : goal.returns-else-branch-clause-ended
returns-else-branch-clause-ended g c =
    let none : c.in_ok-handle_next.field-0 ≡ false = search rules in
    λ _. subst IsInputEnd c.new-reader.ensures (c.in_ok-handle_next.ensures.ended none)
