use Rattle.std.proofs.Common.{◌≤◌, subst, arith}
use Rattle.std.specs.List.{AllByRecursion}
use Rattle.record.specs.Records.{Call}
use Rattle.soundness.specs.Sound.{IsCallPast}
use Rattle.register.specs.State.{State}
use Rattle.register.proofs.ListLemmas.{all_weaker}
use Rattle.cluster.proofs.StepInvariantLemmas.{placed}
use Rattle.driver.proofs.NamedObjectLemmas.{one_state}
use Rattle.locked_steps.proofs.rounds.past_calls.Goals as goal

pub returns-in-Ok : goal.returns-in-Ok
returns-in-Ok c state at =
    let kept = c.invariant.ensures.1.1 in
    let old = c.in-Ok.register.now in
    let p = placed c.args.name.now old kept c.in-Ok.ensures.object in
    let past = p.1.past in
    let all : AllByRecursion (λ (call : Call). call.called ≤ c.args.cluster.now.counter) old.object.calls =
    all_weaker (IsCallPast old.last) (λ (call : Call). call.called ≤ c.args.cluster.now.counter) old.object.calls
    (λ call h. let low = h.called in omega (arith, low, past)) c.soundness.ensures.sound.past.calls in
    subst (λ (s : State). AllByRecursion (λ (call : Call). call.called ≤ c.args.cluster.now.counter) s.object.calls)
    (one_state c.args.cluster.now c.args.name.now old state c.in-Ok.ensures.object at) all
