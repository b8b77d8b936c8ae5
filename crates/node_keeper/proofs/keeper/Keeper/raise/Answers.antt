use Rattle.std.proofs.Common.{refl}
use Rattle.node_keeper.proofs.ClosedBankLemmas.{raised_acts}
use Rattle.node_keeper.proofs.keeper.Keeper.raise.Goals as goal

pub returns-clause-acts : goal.returns-clause-acts
returns-clause-acts c = λ asker.
    raised_acts c.args.name.now c.args.position c.args.self.now _ c.args.work.now c.log_raise.new.work
    (record {
      done = c.in_ok-raise.ensures.done;
      grown = c.in_ok-log_raise.ensures.logged;
      fits = c.in_ok-log_raise.ensures.writes;
      file = refl;
      digest = refl;
      ids = refl;
    })
    c.in_ok-log_raise.ensures.next asker
