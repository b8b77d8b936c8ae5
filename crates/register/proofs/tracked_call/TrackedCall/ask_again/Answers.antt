use Rattle.std.proofs.Common.{◌≡◌, ℕ, ◌+◌, ◌++◌, nat_le, Bool, List, length, Some, sym, ap, subst, ◌∙◌, inl}
use Rattle.std.specs.Option.{option_copied}
use Rattle.tag.specs.declared.limits.TheConstants.{MOST_MESSAGES}
use Rattle.tag.specs.Refusal.{IsByCause}
use Rattle.mail.specs.declared.message.Message.{Message}
use Rattle.mail.specs.Mail.{mail_cause}
use Rattle.mail.specs.Phase.{Phase, members_of}
use Rattle.record.specs.Sending.{missing, requests}
use Rattle.record.specs.Wants.{current_phase}
use Rattle.call.specs.Pieces.{HavePieces, piece_from}
use Rattle.register.specs.Tracked.{Tracked, asked_again}
use Rattle.register.proofs.ListLemmas.{same_some, on_ok}
use Rattle.register.proofs.TakenCallLemmas.{current_push}
use Rattle.register.proofs.MemberLoopLemmas.{same_requests}
use Rattle.register.proofs.RoomLemmas.{few_room, many_full, more_few, handed_on}
use Rattle.register.proofs.tracked_call.TrackedCall.ask_again.Goals as goal
use Rattle.register.proofs.tracked_call.TrackedCall.ask_again.Goals.{After-missing_count}

-- the phase that was read is the current one
module _ (c : After-missing_count) where
  here : current_phase c.args.self.now.call.phases ≡ Some c.phase-phase.result.now
  here = ap (λ (t : Tracked). current_phase t.call.phases) (sym c.self.view_is)
      ∙ current_push c.self.inside.finished.items c.self.inside.call.phase ∙ ap Some (sym c.phase-phase.ensures.value)

  -- so its requests are those that the current phase resends, and they are as many as were counted
  module _ (p : Phase) (servers : List ℕ) (at : current_phase c.args.self.now.call.phases ≡ Some p)
      (count : length servers ≡ p.members) where
    abbrev again : List Message
    again = asked_again c.args.number p servers c.args.mail.now (piece_from (option_copied c.args.coded))

    abbrev same : c.phase-phase.result.now ≡ p
    same = same_some c.phase-phase.result.now p (sym here ∙ at)

    members : length servers ≡ c.phase-phase.result.now.members
    members = count ∙ ap (λ (p : Phase). p.members) (sym same)

    asks : missing c.args.mail.now (members_of c.phase-phase.result.now.replies)
        (requests c.args.number c.number.result c.kind.result c.position.result servers 0 (piece_from (option_copied c.args.coded))) ≡ again
    asks =
        let q = c.phase-phase.result.now in
        same_requests c.args.mail.now q.replies c.args.number c.number.result q.number c.kind.result q.kind c.position.result q.position
        servers (piece_from (option_copied c.args.coded)) c.number.ensures c.kind.ensures c.position.ensures
        ∙ ap (λ (p : Phase). asked_again c.args.number p servers c.args.mail.now (piece_from (option_copied c.args.coded))) same

    few : {room : Bool} → room ≡ nat_le (length c.args.mail.now + c.missing_count.result) MOST_MESSAGES
        → nat_le (length (c.args.mail.now ++ again)) MOST_MESSAGES ≡ room
    few {room = room} fits = more_few c.args.mail.now again c.missing_count.result room
        (c.missing_count.ensures servers (piece_from (option_copied c.args.coded)) members ∙ ap length asks) fits

pub returns-then-not-has_room-clause-cause : goal.returns-then-not-has_room-clause-cause
returns-then-not-has_room-clause-cause c p servers at count =
    let m = (goal.at.returns-then-not-has_room-clause-cause c).After-missing_count in
    inl (many_full _ (few m p servers at count c.has_room.ensures ∙ c.if-not-has_room.true))

pub missing-requires : goal.missing-requires
missing-requires c =
    let phase = c.phase-phase.result.now in
    subst (λ k. HavePieces k phase.members (option_copied c.args.coded)) (sym c.kind.ensures)
    (c.requires.pieces phase (here (goal.at.missing-requires c).After-missing_count))

pub returns-in_err-messages-clause-cause : goal.returns-in_err-messages-clause-cause
returns-in_err-messages-clause-cause c p servers at count =
    let m = (goal.at.returns-in_err-messages-clause-cause c).After-missing_count in
    handed_on (mail_cause (c.args.mail.now ++ again m p servers at count)) c.from_residual.result _
    (few_room _ (c.requires.room p servers at count) (few m p servers at count c.has_room.ensures ∙ c.if-not-has_room.false))
    c.from_residual.ensures.1 c.in_err-messages.ensures.refused

pub returns-clause-mail : goal.returns-clause-mail
returns-clause-mail c =
    on_ok c.post_all.result (λ posted p servers at count.
    let m = (goal.at.returns-clause-mail c).After-missing_count in
    posted ∙ ap (λ ms. c.args.mail.now ++ ms)
    (c.in_ok-messages.ensures.requests servers (members m p servers at count) ∙ asks m p servers at count))
    c.post_all.ensures.posted

pub returns-clause-cause : goal.returns-clause-cause
returns-clause-cause c p servers at count =
    let m = (goal.at.returns-clause-cause c).After-missing_count in
    subst (λ (ms : List Message). IsByCause (mail_cause (c.args.mail.now ++ ms)) c.post_all.result)
    (c.in_ok-messages.ensures.requests servers (members m p servers at count) ∙ asks m p servers at count) c.post_all.ensures.cause
