use Rattle.std.proofs.Common.{arith}
use Rattle.std.proofs.lemmas.Grind.{elements}
use Rattle.register.proofs.register.Register.server.Goals as goal

pub returns-then-member-n : goal.returns-then-member-n
returns-then-member-n c = grind (arith, elements)
