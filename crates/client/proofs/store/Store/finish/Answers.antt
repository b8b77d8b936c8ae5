use Rattle.std.proofs.Common.{subst, sym}
use Rattle.cluster.proofs.ObjectStepLemmas.{on_err}
use Rattle.client.specs.Callers.{StaysOpen}
use Rattle.client.proofs.store.Store.finish.Goals as goal

pub returns-in_err-round-clause-err : goal.returns-in_err-round-clause-err
returns-in_err-round-clause-err g c =
    on_err c.from_residual-in_err-round.result
    (subst (StaysOpen g.K.Caller.asks c.args.resumed c.args.caller.now) (sym c.in_err-round.ensures.kept) c.loop.invariant.stays)
