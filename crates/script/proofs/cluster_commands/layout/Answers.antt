use Rattle.std.proofs.Common.{◌∷◌, codes, map}
use Rattle.script.proofs.NoCommandLemmas.{fails_or, none-Layout}
use Rattle.script.proofs.cluster_commands.layout.Goals as goal

pub returns-in_err-k : goal.returns-in_err-k
returns-in_err-k c =
    fails_or (codes "layout" ∷ map (λ w. w.now) c.args.words.now) _ _ _ c.from_residual.ensures.1 c.in_err-k.ensures.err (none-Layout _)
