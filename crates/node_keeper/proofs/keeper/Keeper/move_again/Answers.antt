use Rattle.std.proofs.Common.{◌∷◌, [], refl}
use Rattle.local_object.specs.Events.{LocalEvent}
use Rattle.node_keeper.proofs.DoneLemmas.{done_of}
use Rattle.node_keeper.proofs.keeper.Keeper.move_again.Goals as goal

pub returns-clause-begun : goal.returns-clause-begun
returns-clause-begun c =
    let old = c.args.self.now in
    done_of old (record old { objects = c.begin_move.new.self }) c.args.name.now
    (LocalEvent.BeginMove c.args.id c.args.layout ∷ []) c.in_ok-_letters._letters.items refl refl c.in_ok-_letters.ensures.done
