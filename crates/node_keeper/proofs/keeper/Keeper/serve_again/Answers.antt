use Rattle.std.proofs.Common.{option_to_list, refl}
use Rattle.local_object.specs.Doing.{serve_events}
use Rattle.node_keeper.specs.Objects.{objects_of}
use Rattle.node_keeper.proofs.DoneLemmas.{done_of}
use Rattle.node_keeper.proofs.keeper.Keeper.serve_again.Goals as goal

pub returns-clause-served : goal.returns-clause-served
returns-clause-served c =
    let old = c.args.self.now in
    let it = c.args.it in
    done_of old (record old { objects = c.serve.new.self }) it.name (serve_events (objects_of old.objects it.name) it.letter)
    (option_to_list c.in_ok-_reply._reply) refl refl c.in_ok-_reply.ensures.done
