use Rattle.std.proofs.Common.{rules, arith}
use Rattle.std.proofs.lemmas.Grind.{common_steps}
use Rattle.register.proofs.register.phases.want_of.Goals as goal

pub returns-then-lacks_pieces : goal.returns-then-lacks_pieces
returns-then-lacks_pieces c = search rules

pub returns-then-not-is_settled : goal.returns-then-not-is_settled
returns-then-not-is_settled c = grind (arith, common_steps)
