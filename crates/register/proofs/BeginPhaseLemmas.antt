-- A call begins the phase that is due.
use Rattle.std.proofs.Common.{◌≡◌, ℕ, suc, ◌<◌, ◌≤◌, nat_lt, List, ◌++◌, length, set, Option, None, sym, ap, subst, ◌∙◌}
use Rattle.tag.specs.declared.limits.TheConstants.{MOST_PHASES, MOST_STEPS}
use Rattle.tag.specs.declared.refusal.Refusal.{Refusal}
use Rattle.tag.specs.declared.refusal.Refusal.TheVariants.{Full}
use Rattle.encoder.specs.Coded.{Coding}
use Rattle.encoder.specs.Fragment.{fragment}
use Rattle.bank.specs.declared.kind.Kind.{Kind}
use Rattle.layout.specs.Layout.{Layout}
use Rattle.mail.specs.declared.message.Message.{Message}
use Rattle.mail.specs.Mail.{mail_cause}
use Rattle.record.specs.Preconditions.{MayStep}
use Rattle.soundness.specs.Sound.{IsSound}
use Rattle.record.specs.Steps.{Step, stepped}
use Rattle.record.specs.Sending.{requests}
use Rattle.register.specs.Causes.{new_phase_cause, unless}
use Rattle.call.specs.Pieces.{piece_from}
use Rattle.register.specs.Kept.{IsKept, HasRoomIfFew}
use Rattle.register.specs.State.{Contents, State, made, state_of}
use Rattle.register.specs.Tracked.{Tracked, with_begun}
use Rattle.register.proofs.ChangedCallLemmas.{with_due, with_due_kept, sound_room, room_there}
use Rattle.register.proofs.FoundCallLemmas.{IsFound, at, later}
use Rattle.register.proofs.RoomLemmas.{step_within}
use Rattle.register.proofs.StepInvariantLemmas.{steps_on}

-- by this step the call that was read begins the phase that is due; `cause` is why the step is refused at each number
pub record IsBeginning (c : Contents) (number index : ℕ) (t : Tracked) (step : Step) (cause : ℕ → Option Refusal) (coded : Option Coding)
    (kind : Kind) (position : ℕ) (layout : Layout) : Type 0 where
  pub found : IsFound c number index t
  pub may : MayStep fragment (state_of c).object step
  pub makes : (now : ℕ) → made step now (state_of c) ≡ state_of (with_due c index t kind position layout now (piece_from coded))
  pub causes : (now : ℕ) → cause now ≡ new_phase_cause step now (state_of c).object t.call

module _ {c : Contents} {number index : ℕ} {t : Tracked} {step : Step} {cause : ℕ → Option Refusal} {coded : Option Coding}
    {kind : Kind} {position : ℕ} {layout : Layout} (b : IsBeginning c number index t step cause coded kind position layout) (now : ℕ) where
  -- the call with its new phase, and the messages with its requests
  abbrev begun : Contents
  begun = with_due c index t kind position layout now (piece_from coded)

  abbrev pub mail_begun : List Message
  mail_begun = c.mail ++ requests t.call.id (suc (length t.call.phases)) kind position layout.members 0 (piece_from coded)

  -- the id of the call is its number
  id_is : t.call.id ≡ suc index
  id_is = b.found.kept.numbered index t.call (at b.found)

  mail_is : mail_begun ≡ begun.mail
  mail_is =
      ap (λ n. c.mail ++ requests n (suc (length t.call.phases)) kind position layout.members 0 (piece_from coded)) id_is

  begun_sound : {s : State} → state_of c ≡ s → s.last < now → IsSound fragment (state_of begun).object now
  begun_sound view after =
      subst (λ (r : State). IsSound fragment r.object now) (b.makes now) (steps_on c now step (later c view after) b.found.kept b.may)

  pub begin_room : {s : State} → state_of c ≡ s → s.last < now → HasRoomIfFew mail_begun
  begin_room view after = subst HasRoomIfFew (sym mail_is) (sound_room _ now (begun_sound view after))

  pub begin_cause : now ≤ MOST_STEPS → cause now ≡ unless (nat_lt (length t.call.phases) MOST_PHASES) Full (mail_cause mail_begun)
  begin_cause most =
      let few = nat_lt (length t.call.phases) MOST_PHASES in
      b.causes now
      ∙ step_within now (unless few Full (mail_cause (stepped fragment step now (state_of c).object).mail)) most
      ∙ ap (λ (r : State). unless few Full (mail_cause r.object.mail)) (b.makes now)
      ∙ ap (λ ms. unless few Full (mail_cause ms)) (sym mail_is)

  -- what the call and the mail are made
  module _ {mail : List Message} {new : Tracked} (mail_made : mail ≡ mail_begun)
      (call_made : new ≡ with_begun t t.call.id kind position layout now) where
    made_is : begun ≡ record c { mail = mail; calls = set c.calls index new; last = now }
    made_is =
        ap (λ ms. record begun { mail = ms }) (sym mail_is ∙ sym mail_made)
        ∙ ap (λ u. record c { mail = mail; calls = set c.calls index u; last = now })
        (ap (λ n. with_begun t n kind position layout now) (sym id_is) ∙ sym call_made)

    pub begin_step : state_of (record c { mail = mail; calls = set c.calls index new; last = now }) ≡ made step now (state_of c)
    begin_step = sym (b.makes now ∙ ap state_of made_is)

    pub begin_kept : {s : State} → state_of c ≡ s → s.last < now
        → unless (nat_lt (length t.call.phases) MOST_PHASES) Full (mail_cause mail_begun) ≡ None
        → IsKept (record c { mail = mail; calls = set c.calls index new; last = now })
    begin_kept view after none =
        subst IsKept made_is
        (with_due_kept c index t kind position layout now (piece_from coded) b.found.kept b.found.there
        (room_there (length t.call.phases) MOST_PHASES (mail_cause mail_begun) none) (begun_sound view after))
