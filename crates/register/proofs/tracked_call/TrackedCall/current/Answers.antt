use Rattle.std.proofs.Common.{Some, sym, ap, ◌∙◌}
use Rattle.record.specs.Wants.{current_phase}
use Rattle.register.specs.Tracked.{Tracked}
use Rattle.register.proofs.TakenCallLemmas.{current_push}
use Rattle.register.proofs.tracked_call.TrackedCall.current.Goals as goal

pub returns : goal.returns
returns c =
    ap Some c.phase.ensures.value ∙ sym (current_push c.self.inside.finished.items c.self.inside.call.phase)
    ∙ ap (λ (t : Tracked). current_phase t.call.phases) c.self.view_is
