use Rattle.std.proofs.Common.{◌≡◌, ◌+◌, ◌≤◌, length, inl, inr, arith}
use Rattle.example_runs.proofs.BroughtLemmas.{one_more}
use Rattle.example_runs.proofs.process_run.ProcessRun.carry_all.Goals as goal

pub returns-then-place-len-clause-does : goal.returns-then-place-len-clause-does
returns-then-place-len-clause-does c =
    let all = c.loop-count.self.sent in
    let none : length all.items ≤ c.loop-count.place = omega (arith, c.len.ensures, c.if-place-len.true, all.ok.0) in
    (c.loop-count._count, c.loop-count.invariant.0, c.loop-count.invariant.1, inl none)

pub returns-then-place-len-clause-reached : goal.returns-then-place-len-clause-reached
returns-then-place-len-clause-reached c = c.loop-count.invariant.2

pub loop-count-preserved : goal.loop-count-preserved
loop-count-preserved c =
    let next : c.loop-count.place + 1 ≡ c.args.first + (c.loop-count._count + 1) = omega (arith, c.loop-count.invariant.0) in (
      next,
      one_more c.loop-count._count c.args.first c.loop-count.place c.args.self.now c.loop-count.self c.carry_to_any.new.self
          c.loop-count.invariant.0 c.loop-count.invariant.1 c.in_ok-carry_to_any.ensures.does,
      λ is. c.in_ok-carry_to_any.ensures.reached (c.loop-count.invariant.2 is),
    )

pub returns-clause-does : goal.returns-clause-does
returns-clause-does c =
    let most : c.loop-count._count ≡ 10000 = omega (arith, c.loop-count-test.false, c.loop-count.auto._count-end) in
    (c.loop-count._count, c.loop-count.invariant.0, c.loop-count.invariant.1, inr most)

pub returns-clause-reached : goal.returns-clause-reached
returns-clause-reached c = c.loop-count.invariant.2
