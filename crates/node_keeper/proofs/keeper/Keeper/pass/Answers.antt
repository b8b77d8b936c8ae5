use Rattle.std.proofs.Common.{[]}
use Rattle.std.proofs.lemmas.Result.{on_ok_weaker}
use Rattle.node_keeper.proofs.ActLemmas.{acts_more}
use Rattle.node_keeper.proofs.ClosedBankLemmas.{closed_acts}
use Rattle.node_keeper.proofs.keeper.Keeper.pass.Goals as goal

pub returns-clause-acts : goal.returns-clause-acts
returns-clause-acts c =
    on_ok_weaker c.close.result
    (λ closes asker. acts_more asker [] c.args.self.now c.raise.new.self c.close.new.self c.args.work.now c.raise.new.work
    c.close.new.work (c.in_ok-raise.ensures.acts asker)
    (closed_acts c.args.name.now c.args.position c.raise.new.self c.close.new.self c.raise.new.work c.close.new.work closes asker))
    c.close.ensures.closes

pub returns-clause-passes : goal.returns-clause-passes
returns-clause-passes c =
    on_ok_weaker c.close.result
    (λ closes. record {
      middle = c.raise.new.self;
      between = c.raise.new.work;
      raises = c.in_ok-raise.ensures.raises;
      closes = closes;
    })
    c.close.ensures.closes
