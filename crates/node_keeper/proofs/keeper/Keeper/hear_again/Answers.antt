use Rattle.std.proofs.Common.{refl, rules}
use Rattle.layout.specs.Layout.{IsLawful}
use Rattle.node_keeper.proofs.DoneLemmas.{heard_at}
use Rattle.node_keeper.proofs.keeper.Keeper.hear_again.Goals as goal

pub returns-clause-heard : goal.returns-clause-heard
returns-clause-heard c =
    let old = c.args.self.now in
    let lawful : IsLawful c.args.layout = search rules in
    heard_at old (record old { objects = c.hear.new.self }) c.args.name.now c.args.position c.args.layout
    lawful refl refl c.in_ok-hear.ensures.heard
