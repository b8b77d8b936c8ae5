use Rattle.driver.proofs.LimitRefusalLemmas.{err_of}
use Rattle.driver.proofs.ObjectIndexLemmas.{missing_round}
use Rattle.driver.proofs.round.make_round.Goals as goal

pub returns-in_err-object-clause-refused : goal.returns-in_err-object-clause-refused
returns-in_err-object-clause-refused g c =
    err_of _ _ _ c.from_residual.ensures.1
    (missing_round g.C.Chooser.chooses c.args.name.now c.args.call c.args.cluster.now c.args.chooser.now c.in_err-object.field-0.0
    c.in_err-object.ensures.cause c.args.asks_again)

pub make_round_at-requires-clause-wanted : goal.make_round_at-requires-clause-wanted
make_round_at-requires-clause-wanted g c = c.requires

pub returns-clause-round : goal.returns-clause-round
returns-clause-round g c = c.make_round_at.ensures.round

pub returns-clause-refused : goal.returns-clause-refused
returns-clause-refused g c = c.make_round_at.ensures.refused
