use Rattle.std.proofs.Common.{refl}
use Rattle.record.specs.Steps.{Step}
use Rattle.cluster.specs.Cluster.{next_call_id}
use Rattle.driver.proofs.WholeCallLemmas.{whole_call}
use Rattle.driver.proofs.whole_call.write.Goals as goal

pub returns-in-Ok : goal.returns-in-Ok
returns-in-Ok g c =
    whole_call g.C.Chooser.chooses c.args.name.now c.args.turns c.args.cluster.now c.args.chooser.now c.call_write.new.self
    c.finish_begun.new.cluster c.finish_begun.new.chooser c.in-Ok.call _
    (Step.CallWrite (next_call_id c.args.cluster.now c.args.name.now) c.args.value)
    c.finish_begun.result c.in-Ok.ensures.step c.in-Ok.ensures.may c.in-Ok.ensures.number c.in-Ok.ensures.cause c.finish_begun.ensures

pub returns-in-Err : goal.returns-in-Err
returns-in-Err g c = (c.in-Err.ensures.cause, c.in-Err.ensures.unchanged, refl)
