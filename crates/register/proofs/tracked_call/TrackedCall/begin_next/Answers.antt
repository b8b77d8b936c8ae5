use Rattle.std.proofs.Common.{◌≡◌, ℕ, suc, ◌+◌, ◌++◌, nat_lt, true, List, length, Option, None, ap, ◌∙◌, inl, arith}
use Rattle.std.specs.Option.{option_copied}
use Rattle.tag.specs.declared.limits.TheConstants.{MOST_PHASES}
use Rattle.tag.specs.declared.refusal.Refusal.{Refusal}
use Rattle.tag.specs.declared.refusal.Refusal.TheVariants.{Full}
use Rattle.mail.specs.declared.message.Message.{Message}
use Rattle.mail.specs.Mail.{mail_cause}
use Rattle.record.specs.Sending.{requests}
use Rattle.call.specs.Pieces.{piece_from}
use Rattle.register.specs.Causes.{unless}
use Rattle.register.specs.Tracked.{Tracked}
use Rattle.register.proofs.RoomLemmas.{begin_by, for_memory, handed_on, passed}
use Rattle.register.proofs.tracked_call.TrackedCall.begin_next.Goals as goal
use Rattle.register.proofs.tracked_call.TrackedCall.begin_next.Goals.{After-can_begin}

-- the test decides
module _ (c : After-can_begin) where
  abbrev number : ℕ
  number = suc (length c.args.self.now.call.phases)

  abbrev all : (id number : ℕ) → List Message
  all id number = c.args.mail.now
      ++ requests id number c.args.kind c.args.position c.args.layout.now.members 0 (piece_from (option_copied c.args.coded))

  abbrev cause : Option Refusal
  cause = unless (nat_lt (length c.args.self.now.call.phases) MOST_PHASES) Full (mail_cause (all c.args.self.now.call.id number))

  tested : cause ≡ unless c.can_begin.result Full None
  tested =
      begin_by (length c.args.self.now.call.phases) c.args.mail.now c.args.self.now.call.id number c.args.kind c.args.position
      c.args.layout.now.members (piece_from (option_copied c.args.coded)) c.n.result c.can_begin.result c.requires.room c.n.ensures.value
      c.can_begin.ensures

  free : c.can_begin.result ≡ true → cause ≡ None
  free passed = tested ∙ ap (λ b. unless b Full None) passed

pub returns-then-not-can_begin-clause-cause : goal.returns-then-not-can_begin-clause-cause
returns-then-not-can_begin-clause-cause c =
    inl (tested (goal.at.returns-then-not-can_begin-clause-cause c).After-can_begin
    ∙ ap (λ b. unless b Full None) c.if-not-can_begin.true)

pub returns-in_err-reserve-clause-cause : goal.returns-in_err-reserve-clause-cause
returns-in_err-reserve-clause-cause c =
    for_memory _ c.from_residual.result
    (free (goal.at.returns-in_err-reserve-clause-cause c).After-can_begin c.if-not-can_begin.false) c.from_residual.ensures.1

pub returns-in_err-phase-clause-cause : goal.returns-in_err-phase-clause-cause
returns-in_err-phase-clause-cause c =
    handed_on _ c.from_residual-in_err-phase.result _
    (free (goal.at.returns-in_err-phase-clause-cause c).After-can_begin c.if-not-can_begin.false)
    c.from_residual-in_err-phase.ensures.1 c.in_err-phase.ensures.refused

pub post_requests-requires-clause-room : goal.post_requests-requires-clause-room
post_requests-requires-clause-room c =
    let n = (goal.at.post_requests-requires-clause-room c).After-can_begin in
    let next : c.count.result + 1 ≡ number n = omega (arith, c.count.ensures) in
    let named = c.id.ensures ∙ ap (λ (t : Tracked). t.call.id) c.self.view_is in
    ap (λ k. mail_cause (all n c.id.result k)) next ∙ ap (λ id. mail_cause (all n id (number n))) named
    ∙ (passed _ _ _ (free n c.if-not-can_begin.false)).1

pub returns-in_err-post_requests-clause-cause : goal.returns-in_err-post_requests-clause-cause
returns-in_err-post_requests-clause-cause c =
    handed_on _ c.from_residual-in_err-post_requests.result _
    (free (goal.at.returns-in_err-post_requests-clause-cause c).After-can_begin c.if-not-can_begin.false)
    c.from_residual-in_err-post_requests.ensures.1 c.in_err-post_requests.ensures.refused

pub returns-clause-cause : goal.returns-clause-cause
returns-clause-cause c = free (goal.at.returns-clause-cause c).After-can_begin c.if-not-can_begin.false
