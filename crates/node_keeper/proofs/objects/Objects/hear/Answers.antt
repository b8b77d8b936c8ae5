use Rattle.node_keeper.proofs.UnchangedObjectLemmas.{changed_same}
use Rattle.local_object.specs.Local.{with_heard}
use Rattle.node_keeper.specs.Objects.{objects_of}
use Rattle.node_keeper.proofs.objects.Objects.hear.Goals as goal

pub returns-clause-heard : goal.returns-clause-heard
returns-clause-heard c =
    changed_same c.args.self.now c.hear_there.new.self c.forget_new.new.self c.args.name.now c.forget_new.ensures.same
    (with_heard (objects_of c.args.self.now c.args.name.now) c.args.position c.args.layout) c.in_ok-hear_there.ensures.heard
