use Rattle.std.proofs.Common.{arith}
use Rattle.std.proofs.lemmas.Grind.{elements}
use Rattle.local_object.proofs.local_object.has_member.Goals as goal

pub returns : goal.returns
returns c = grind (arith, elements)
