use Rattle.std.proofs.Common.{◌≡◌, ◌++◌, length, Some, nat_le, sym, ap, subst, ◌∙◌}
use Rattle.tag.specs.declared.limits.TheConstants.{MOST_MESSAGES}
use Rattle.mail.specs.Phase.{Phase}
use Rattle.record.specs.Wants.{current_phase}
use Rattle.register.specs.Tracked.{Tracked, asked_again}
use Rattle.register.proofs.ListLemmas.{same_some}
use Rattle.register.proofs.TakenCallLemmas.{current_push}
use Rattle.register.proofs.MemberLoopLemmas.{same_requests}
use Rattle.register.proofs.RoomLemmas.{more_few}
use Rattle.register.proofs.tracked_call.TrackedCall.can_ask_again.Goals as goal

pub returns : goal.returns
returns c p servers piece at count =
    let t = c.args.self.now in
    let mail = c.args.mail.now in
    let phase = c.phase-phase.result.now in
    let here : current_phase t.call.phases ≡ Some phase =
    ap (λ (t : Tracked). current_phase t.call.phases) (sym c.self.view_is)
    ∙ current_push c.self.inside.finished.items c.self.inside.call.phase ∙ ap Some (sym c.phase-phase.ensures.value) in
    let same : phase ≡ p = same_some phase p (sym here ∙ at) in
    let members : length servers ≡ phase.members = count ∙ ap (λ (p : Phase). p.members) (sym same) in
    let asks = same_requests mail phase.replies c.args.number c.number.result phase.number c.kind.result phase.kind c.position.result
    phase.position servers piece c.number.ensures c.kind.ensures c.position.ensures in
    let again = asked_again c.args.number phase servers mail piece in
    let counted = c.missing_count.ensures servers piece members ∙ ap length asks in
    let few = more_few mail again c.missing_count.result c.has_room.result counted c.has_room.ensures in
    subst (λ (p : Phase). c.has_room.result ≡ nat_le (length (mail ++ asked_again c.args.number p servers mail piece)) MOST_MESSAGES) same
    (sym few)
