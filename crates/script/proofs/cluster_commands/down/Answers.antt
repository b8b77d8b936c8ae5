use Rattle.std.proofs.Common.{◌∷◌, codes, map}
use Rattle.script.proofs.NoCommandLemmas.{fails, none-Down}
use Rattle.script.proofs.cluster_commands.down.Goals as goal

pub returns-in_err-server : goal.returns-in_err-server
returns-in_err-server c =
    fails (codes "down" ∷ map (λ w. w.now) c.args.words.now) _ _
    c.from_residual.ensures.1 c.in_err-server.ensures.err.0 (none-Down _ c.in_err-server.ensures.err.1)
