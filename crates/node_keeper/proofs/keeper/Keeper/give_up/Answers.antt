use Rattle.std.proofs.Common.{rules, refl}
use Rattle.node_keeper.proofs.LetterLemmas.{given_up_acts}
use Rattle.node_keeper.proofs.keeper.Keeper.give_up.Goals as goal

pub returns-clause-acts : goal.returns-clause-acts
returns-clause-acts c =
    λ asker work. given_up_acts asker c.args.self.now _ work c.args.name.now c.args.id refl refl refl c.give_up.ensures.done

pub returns-clause-given_up : goal.returns-clause-given_up
returns-clause-given_up c = search rules
