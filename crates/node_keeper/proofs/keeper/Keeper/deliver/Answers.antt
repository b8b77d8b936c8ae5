use Rattle.std.proofs.Common.{IfErr, IfOk, subst}
use Rattle.node_effects.specs.Errors.{IsUnwritten}
use Rattle.node_keeper.specs.Delivering.{CanDeliver, DeliversLetter}
use Rattle.node_keeper.specs.declared.keeper.Keeper.{Keeper}
use Rattle.node_keeper.proofs.keeper.Keeper.deliver.Goals as goal

pub returns-clause-delivers : goal.returns-clause-delivers
returns-clause-delivers c =
    let after = c.deliver_expected in
    subst (λ (old : Keeper). IfOk after.result (DeliversLetter c.args.sender c.args.it old c.args.work.now after.new.self after.new.work))
    c.expect.ensures.same after.ensures.delivers

pub returns-clause-refused : goal.returns-clause-refused
returns-clause-refused c =
    let after = c.deliver_expected in
    subst (λ (old : Keeper). IfErr after.result (IsUnwritten (CanDeliver c.args.sender c.args.it old))) c.expect.ensures.same
    after.ensures.refused
