use Rattle.std.proofs.Common.{arith}
use Rattle.std.proofs.lemmas.Grind.{elements}
use Rattle.register.proofs.register.Register.layout_view.Goals as goal

pub returns : goal.returns
returns c = grind (arith, elements)
