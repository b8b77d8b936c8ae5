use Rattle.std.proofs.Common.{rules, Some, None}
use Rattle.node_store.proofs.RecoveryLemmas.{so_far_more, so_far_end, read_as}
use Rattle.node_store.proofs.reading.recover_machine.Goals as goal

pub loop-end-preserved : goal.loop-end-preserved
loop-end-preserved g c =
    let carries_out = g.M.Machine.carries_out in
    let left = g.R.Read.remaining in
    let next = c.read_next.new in
    so_far_more carries_out c.args.machine.now c.loop-end.machine next.machine
    (left c.args.reader.now) (left c.loop-end.reader) (left next.reader) c.loop-end.at c.in-Some.end c.loop-end.invariant
    (read_as carries_out c.loop-end.at c.loop-end.machine next.machine (left c.loop-end.reader) (left next.reader)
    c.in_ok-end.field-0 (Some c.in-Some.end) c.in-Some.is c.in_ok-end.ensures)

pub returns : goal.returns
returns g c =
    let carries_out = g.M.Machine.carries_out in
    let left = g.R.Read.remaining in
    let next = c.read_next.new in
    so_far_end carries_out c.args.machine.now c.loop-end.machine next.machine (left c.args.reader.now) (left c.loop-end.reader)
    (left next.reader) c.loop-end.at c.loop-end.invariant
    (read_as carries_out c.loop-end.at c.loop-end.machine next.machine (left c.loop-end.reader) (left next.reader)
    c.in_ok-end.field-0 None c.in_default.is c.in_ok-end.ensures)

pub loop-end-init : goal.loop-end-init
loop-end-init g c = search rules
