use Rattle.std.proofs.Common.{◌∷◌, codes, map}
use Rattle.script.proofs.NoCommandLemmas.{fails, none-Servers}
use Rattle.script.proofs.cluster_commands.servers.Goals as goal

pub returns-in_err-count : goal.returns-in_err-count
returns-in_err-count c =
    fails (codes "servers" ∷ map (λ w. w.now) c.args.words.now) _ _
    c.from_residual.ensures.1 c.in_err-count.ensures.err.0 (none-Servers _ c.in_err-count.ensures.err.1)
