use Rattle.std.proofs.Common.{arith, ⊎_elim}
use Rattle.kernels.proofs.LevelSumLemmas.{first_left, first_put}
use Rattle.kernels.proofs.differences.first_sums.Goals as goal

pub returns-then-this-gt0-clause-sums : goal.returns-then-this-gt0-clause-sums
returns-then-this-gt0-clause-sums g c r i hr hi = first_put g.row.R c.args.origin c.args.one r i c.if-one.true hr hi

pub returns-else-one-clause-sums : goal.returns-else-one-clause-sums
returns-else-one-clause-sums g c r i hr hi =
    ⊎_elim (λ none. absurd (omega (arith, none.1))) (λ no. first_left g.row.R c.args.origin c.args.one r i no hr) c.else-one.either
