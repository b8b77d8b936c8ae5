use Rattle.std.proofs.Common.{◌≡◌, is_some, true, false, Some, sym, ap, subst, ◌∙◌}
use Rattle.mail.specs.Phase.{Phase, after_take}
use Rattle.record.specs.PhaseOrder.{begun_at}
use Rattle.record.specs.Wants.{current_phase}
use Rattle.call.specs.StageLimits.{IsBelowLimit, HasNextTag}
use Rattle.call.specs.Call.{OpenCall}
use Rattle.call.specs.Limits.{CanReach}
use Rattle.register.specs.Tracked.{Tracked, taken_tracked, took_current}
use Rattle.register.proofs.TakenCallLemmas.{current_push, ended_is, ended_stale, reach_taken, taken_is}
use Rattle.register.proofs.tracked_call.TrackedCall.take.Goals as goal

pub returns-then-complete : goal.returns-then-complete
returns-then-complete c =
    let k = c.self.inside in
    let ended : is_some k.call.phase.end ≡ true =
    ap (λ (p : Phase). is_some p.end) (sym c.phase.ensures.value) ∙ sym c.complete.ensures.value ∙ c.if-complete.true in
    record {
      call = sym c.self.view_is ∙ ended_is k.called k.answered k.finished.items k.call k.stage c.args.message c.args.now ended
          ∙ ap (taken_tracked c.args.message c.args.now) c.self.view_is;
      took = sym (ap (took_current c.args.message) (ap (λ (t : Tracked). current_phase t.call.phases) (sym c.self.view_is)
          ∙ current_push k.finished.items k.call.phase) ∙ ended_stale k.call.phase c.args.message ended);
    }

pub reached-self-inside-requires : goal.reached-self-inside-requires
reached-self-inside-requires c =
    let k = c.self.inside in
    let p = k.call.phase in
    let open_yet : is_some p.end ≡ false =
    ap (λ (p : Phase). is_some p.end) (sym c.phase.ensures.value) ∙ sym c.complete.ensures.value ∙ c.if-complete.false in
    let here : current_phase c.args.self.now.call.phases ≡ Some p =
    ap (λ (t : Tracked). current_phase t.call.phases) (sym c.self.view_is) ∙ current_push k.finished.items p in
    let near = subst (λ (t : Tracked). IsBelowLimit (begun_at t.stage p.position)) (sym c.self.view_is) (c.requires.near p here) in
    let replies = (after_take p c.args.message c.args.now).replies in
    let tags = subst (λ (t : Tracked). HasNextTag t.call.kind (begun_at t.stage p.position) replies) (sym c.self.view_is)
    (c.requires.tags p here) in
    record {
      limits = subst (λ (call : OpenCall). CanReach call) (sym c.take-took.ensures.call)
          (reach_taken c.self.invariant c.phase.ensures.lawful open_yet k.called k.answered c.args.message c.args.now near tags);
    }

pub returns : goal.returns
returns c =
    let k = c.self.inside in
    let open_yet : is_some k.call.phase.end ≡ false =
    ap (λ (p : Phase). is_some p.end) (sym c.phase.ensures.value) ∙ sym c.complete.ensures.value ∙ c.if-complete.false in
    record {
      call = taken_is c.self.invariant c.phase.ensures.lawful open_yet k.called k.answered c.args.message c.args.now
          c.take-took.ensures.call c.reached-self-inside.ensures ∙ ap (taken_tracked c.args.message c.args.now) c.self.view_is;
      took = c.take-took.ensures.took
          ∙ sym (ap (took_current c.args.message) (ap (λ (t : Tracked). current_phase t.call.phases) (sym c.self.view_is)
          ∙ current_push k.finished.items k.call.phase));
    }
