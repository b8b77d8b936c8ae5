use Rattle.std.proofs.Common.{[]}
use Rattle.local_object.specs.Doing.{give_up_events}
use Rattle.node_keeper.specs.Objects.{objects_of}
use Rattle.node_keeper.proofs.UnchangedObjectLemmas.{done_same}
use Rattle.node_keeper.proofs.objects.Objects.give_up.Goals as goal

pub returns-clause-done : goal.returns-clause-done
returns-clause-done c =
    done_same c.args.self.now c.give_up_there-given_up.new.self c.forget_new.new.self c.args.name.now c.forget_new.ensures.same
    (give_up_events (objects_of c.args.self.now c.args.name.now) c.args.id) [] c.give_up_there-given_up.ensures.done
