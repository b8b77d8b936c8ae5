use Rattle.std.proofs.Common.{◌≤◌, ◌<◌, arith}
use Rattle.example_runs.proofs.BroughtLemmas.{brought, none_more, to_none}
use Rattle.example_runs.proofs.process_run.ProcessRun.carry_to_any.Goals as goal

pub returns-then-branch-clause-does : goal.returns-then-branch-clause-does
returns-then-branch-clause-does c =
    let below : c.loop-number.number < 255 = omega (arith, c.loop-number-test.true) in
    brought c.args.place c.loop-number.number c.args.self.now c.loop-number.self c.is_carried.new.self below
    c.loop-number.invariant.0 c.loop-number.invariant.1 (c.in_ok-is_carried.ensures.does.1 c.if-branch.true)

pub loop-number-preserved : goal.loop-number-preserved
loop-number-preserved c =
    none_more c.args.place c.loop-number.number c.args.self.now c.loop-number.self c.is_carried.new.self
    c.loop-number.invariant.0 c.loop-number.invariant.1 (c.in_ok-is_carried.ensures.does.0 c.if-branch.false)

pub returns-clause-does : goal.returns-clause-does
returns-clause-does c =
    let all : 255 ≤ c.loop-number.number = omega (arith, c.loop-number-test.false) in
    to_none c.args.place c.loop-number.number c.args.self.now c.loop-number.self all c.loop-number.invariant.0
    c.loop-number.invariant.1
