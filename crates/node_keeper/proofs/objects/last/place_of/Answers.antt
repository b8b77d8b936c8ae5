use Rattle.std.proofs.Common.{refl, sym}
use Rattle.local_object.proofs.PlaceLemmas.{read_at}
use Rattle.node_keeper.proofs.objects.last.place_of.Goals as goal

pub returns-in-Some : goal.returns-in-Some
returns-in-Some c =
    let places = c.args.places.now in
    sym (read_at places places places c.args.number c.in-Some.index c.index-places-index.result refl refl c.in-Some.ensures
    c.index-places-index.is)
