use Rattle.std.proofs.Common.{◌∷◌, codes, map}
use Rattle.script.proofs.NoCommandLemmas.{fails, none-CallMove}
use Rattle.script.proofs.call_commands.call_move.Goals as goal

pub returns-in_err-name : goal.returns-in_err-name
returns-in_err-name c =
    fails (codes "call" ∷ codes "move" ∷ map (λ w. w.now) c.args.words.now) _ _
    c.from_residual.ensures.1 c.in_err-name.ensures.err.0 (none-CallMove _ c.in_err-name.ensures.err.1)
