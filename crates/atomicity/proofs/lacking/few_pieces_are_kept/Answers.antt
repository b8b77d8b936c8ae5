use Rattle.std.proofs.Common.{arith}
use Rattle.bank.proofs.PieceBoundLemmas.{few_kept}
use Rattle.atomicity.proofs.lacking.few_pieces_are_kept.Goals as goal

pub returns : goal.returns
returns c = grind (arith, few_kept)
