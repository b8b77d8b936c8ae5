use Rattle.record.specs.Steps.{Step}
use Rattle.cluster.specs.Cluster.{next_call_id}
use Rattle.locked_steps.proofs.ClusterCallCountLemmas.{counted_ok, numbered_ok}
use Rattle.locked_steps.proofs.ReachableLemmas.{goes_on_both}
use Rattle.locked_steps.proofs.begin.begin_call.Goals as goal

pub returns-in-Read-clause-count : goal.returns-in-Read-clause-count
returns-in-Read-clause-count c =
    counted_ok c.call_read.result c.args.cluster.now c.call_read.new.self c.args.name.now
    (Step.CallRead (next_call_id c.args.cluster.now c.args.name.now)) _ c.call_read.ensures.step
    c.call_read.ensures.cause

pub returns-in-Read-clause-number : goal.returns-in-Read-clause-number
returns-in-Read-clause-number c = numbered_ok c.call_read.result c.args.cluster.now c.args.name.now c.call_read.ensures.number

pub returns-in-Write-clause-count : goal.returns-in-Write-clause-count
returns-in-Write-clause-count c =
    counted_ok c.call_write.result c.args.cluster.now c.call_write.new.self c.args.name.now
    (Step.CallWrite (next_call_id c.args.cluster.now c.args.name.now) c.in-Write.value) _
    c.call_write.ensures.step c.call_write.ensures.cause

pub returns-in-Write-clause-number : goal.returns-in-Write-clause-number
returns-in-Write-clause-number c = numbered_ok c.call_write.result c.args.cluster.now c.args.name.now c.call_write.ensures.number

pub returns-in-Read-clause-course : goal.returns-in-Read-clause-course
returns-in-Read-clause-course c =
    goes_on_both c.call_read.result c.args.cluster.now c.call_read.new.self c.args.name.now
    (Step.CallRead (next_call_id c.args.cluster.now c.args.name.now)) c.call_read.ensures.may
    c.call_read.ensures.step c.call_read.ensures.unchanged

pub returns-in-Write-clause-course : goal.returns-in-Write-clause-course
returns-in-Write-clause-course c =
    goes_on_both c.call_write.result c.args.cluster.now c.call_write.new.self c.args.name.now
    (Step.CallWrite (next_call_id c.args.cluster.now c.args.name.now) c.in-Write.value)
    c.call_write.ensures.may c.call_write.ensures.step c.call_write.ensures.unchanged
