use Rattle.std.proofs.Common.{[], refl}
use Rattle.local_object.specs.Doing.{close_events}
use Rattle.node_keeper.specs.Objects.{objects_of}
use Rattle.node_keeper.proofs.DoneLemmas.{done_of}
use Rattle.node_keeper.proofs.keeper.Keeper.close_again.Goals as goal

pub returns-clause-closed : goal.returns-clause-closed
returns-clause-closed c =
    let old = c.args.self.now in
    let name = c.args.name.now in
    done_of old (record old { objects = c.close-closed.new.self }) name (close_events (objects_of old.objects name) c.args.position) []
    refl refl c.close-closed.ensures.done
