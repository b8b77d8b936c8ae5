use Rattle.std.proofs.Common.{rules}
use Rattle.node_store.specs.Serving.{IsInputEnd}
use Rattle.node_store.proofs.GatheringLemmas.{more_handled, more_lost_if, more_stopped_if, not_all}
use Rattle.node_store.proofs.gathering.take_frames.Goals as goal

pub returns-then-not-branch-clause-ended : goal.returns-then-not-branch-clause-ended
returns-then-not-branch-clause-ended g c = λ _. c.in_ok-take_frame.ensures.ended (search rules)

pub returns-clause-handles : goal.returns-clause-handles
returns-clause-handles g c =
    more_handled g.M.Machine.handles g.M.Machine.notes c.args.machine.now c.take_frame.new.machine c.args.left.now.now
    c.take_frame.new.left.now c.args.batch.now c.take_frame.new.batch c.in_ok-take_frame.ensures.handles
    c.take_more.new.machine c.take_more.new.left.now c.take_more.new.batch c.take_more.result c.take_more.ensures.handles

pub returns-clause-ended : goal.returns-clause-ended
returns-clause-ended g c =
    not_all (IsInputEnd c.args.left.now.now) c.args.left.now.now c.take_frame.new.left.now c.take_more.new.left.now
    c.take_more.result (c.in_ok-take_frame.ensures.fewer (search rules)) c.take_more.ensures.no_more

pub returns-clause-lost : goal.returns-clause-lost
returns-clause-lost g c =
    more_lost_if g.M.Machine.handles g.M.Machine.notes c.args.machine.now c.take_frame.new.machine c.args.left.now.now
    c.take_frame.new.left.now c.args.batch.now c.take_frame.new.batch c.in_ok-take_frame.ensures.handles
    c.take_more.result c.take_more.ensures.lost

pub returns-clause-stopped : goal.returns-clause-stopped
returns-clause-stopped g c =
    more_stopped_if g.M.Machine.handles g.M.Machine.notes c.args.machine.now c.take_frame.new.machine c.args.left.now.now
    c.take_frame.new.left.now c.args.batch.now c.take_frame.new.batch c.in_ok-take_frame.ensures.handles
    g.M.Machine.fails c.take_more.result c.take_more.ensures.stopped
