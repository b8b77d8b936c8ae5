use Rattle.std.proofs.Common.{◌∷◌, codes, map}
use Rattle.script.proofs.NoCommandLemmas.{fails, none-Resume}
use Rattle.script.proofs.object_commands.resume.Goals as goal

pub returns-in_err-name : goal.returns-in_err-name
returns-in_err-name c =
    fails (codes "resume" ∷ map (λ w. w.now) c.args.words.now) _ _
    c.from_residual.ensures.1 c.in_err-name.ensures.err.0 (none-Resume _ c.in_err-name.ensures.err.1)
