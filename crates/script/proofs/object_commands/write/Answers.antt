use Rattle.std.proofs.Common.{◌∷◌, codes, map}
use Rattle.script.proofs.NoCommandLemmas.{fails_or, none-Write}
use Rattle.script.proofs.object_commands.write.Goals as goal

pub returns-in_err-name : goal.returns-in_err-name
returns-in_err-name c =
    fails_or (codes "write" ∷ map (λ w. w.now) c.args.words.now) _ _ _ c.from_residual.ensures.1 c.in_err-name.ensures.err (none-Write _)
