use Rattle.std.proofs.Common.{◌∷◌, codes, map}
use Rattle.script.proofs.NoCommandLemmas.{fails, none-Up}
use Rattle.script.proofs.cluster_commands.up.Goals as goal

pub returns-in_err-server : goal.returns-in_err-server
returns-in_err-server c =
    fails (codes "up" ∷ map (λ w. w.now) c.args.words.now) _ _
    c.from_residual.ensures.1 c.in_err-server.ensures.err.0 (none-Up _ c.in_err-server.ensures.err.1)
