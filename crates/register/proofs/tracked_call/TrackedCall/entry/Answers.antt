use Rattle.std.proofs.Common.{◌≡◌, ℕ, Option, ap, ◌∙◌}
use Rattle.record.specs.Journals.{entry_value}
use Rattle.register.specs.Tracked.{Tracked}
use Rattle.register.proofs.tracked_call.TrackedCall.entry.Goals as goal

pub returns-clause-entry : goal.returns-clause-entry
returns-clause-entry c =
    let k = c.self.inside in
    let t = c.args.self.now in
    let answered : k.answered ≡ t.call.answered = ap (λ (t : Tracked). t.call.answered) c.self.view_is in
    let value = c.in_ok-value.ensures.value k.answered c.is_some.ensures
    ∙ ap (λ (a : Option ℕ). entry_value t.call.kind a t.call.settled) answered in
    let id = c.id.ensures ∙ ap (λ (t : Tracked). t.call.id) c.self.view_is in
    λ j. record {
      call = id j;
      kind = c.operation.ensures j;
      called = ap (λ (t : Tracked). t.call.called) c.self.view_is j;
      answered = answered j;
      value = value j;
    }
