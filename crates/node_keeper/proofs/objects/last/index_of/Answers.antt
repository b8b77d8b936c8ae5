use Rattle.local_object.proofs.PlaceLemmas.{at_index}
use Rattle.node_keeper.proofs.objects.last.index_of.Goals as goal

pub returns : goal.returns
returns c = at_index c.args.number c.args.places.now c.first_of.result c.first_of.ensures
