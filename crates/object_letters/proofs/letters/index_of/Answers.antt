use Rattle.local_object.proofs.PlaceLemmas.{at_index}
use Rattle.object_letters.proofs.letters.index_of.Goals as goal

pub returns : goal.returns
returns c = at_index c.args.position c.args.places.now c.first_of.result c.first_of.ensures
