use Rattle.std.proofs.Common.{◌∷◌, codes, map}
use Rattle.script.proofs.NoCommandLemmas.{fails_or, none-SupplyAs}
use Rattle.script.proofs.call_commands.supply_as.Goals as goal

pub returns-in_err-name : goal.returns-in_err-name
returns-in_err-name c =
    fails_or (codes "supply-as" ∷ map (λ w. w.now) c.args.words.now) _ _ _
    c.from_residual.ensures.1 c.in_err-name.ensures.err (none-SupplyAs _)
