-- The current phase of a call asks again.
use Rattle.std.proofs.Common.{◌≡◌, ℕ, ◌<◌, ◌≤◌, List, ◌++◌, length, Option, Some, sym, ap, subst, ◌∙◌}
use Rattle.std.proofs.lemmas.Option.{same_Some}
use Rattle.tag.specs.declared.limits.TheConstants.{MOST_STEPS}
use Rattle.tag.specs.declared.refusal.Refusal.{Refusal}
use Rattle.encoder.specs.Coded.{Coding}
use Rattle.encoder.specs.Fragment.{fragment}
use Rattle.mail.specs.declared.message.Message.{Message}
use Rattle.mail.specs.Mail.{mail_cause}
use Rattle.mail.specs.Phase.{Phase, members_of}
use Rattle.record.specs.Knowledge.{IsTruePhase}
use Rattle.record.specs.Preconditions.{MayStep}
use Rattle.record.specs.Records.{layout_at}
use Rattle.soundness.specs.Sound.{IsSound}
use Rattle.record.specs.Steps.{Step, stepped}
use Rattle.record.specs.Sending.{missing}
use Rattle.record.specs.Wants.{current_phase}
use Rattle.soundness.proofs.ListLemmas.{all_get}
use Rattle.soundness.proofs.Sound.TakenReplyLemmas.{numbered_at}
use Rattle.soundness.proofs.Sound.WantCaseLemmas.{last_at}
use Rattle.register.specs.Causes.{if_step}
use Rattle.call.specs.Pieces.{piece_from, HavePieces}
use Rattle.register.specs.Kept.{IsKept, HasRoomIfFew}
use Rattle.register.specs.State.{Contents, State, made, state_of}
use Rattle.register.specs.Tracked.{Tracked, asked_again}
use Rattle.register.proofs.ChangedCallLemmas.{requests_length, sound_room}
use Rattle.register.proofs.FoundCallLemmas.{IsFound, at, later}
use Rattle.register.proofs.RoomLemmas.{step_within}
use Rattle.register.proofs.StepInvariantLemmas.{mail_kept, steps_on}

-- by this step the current phase of the call that was read asks again; `cause` is why the step is refused at each number
pub record IsAsking (c : Contents) (number index : ℕ) (t : Tracked) (step : Step) (cause : ℕ → Option Refusal)
    (coded : Option Coding) : Type 0 where
  pub found : IsFound c number index t
  pub may : MayStep fragment (state_of c).object step
  pub phase : Phase
  pub current : current_phase t.call.phases ≡ Some phase
  pub servers : List ℕ
  pub members : length servers ≡ phase.members
  pub sends : HavePieces phase.kind phase.members coded
  pub makes : (now : ℕ) → made step now (state_of c)
      ≡ state_of (record c { mail = c.mail ++ asked_again number phase servers c.mail (piece_from coded); last = now })
  pub causes : (now : ℕ) → cause now ≡ if_step now (mail_cause (stepped fragment step now (state_of c).object).mail)

-- the current phase of a call is of that call, and of the members of its layout
module _ {c : Contents} {number index : ℕ} {t : Tracked} (found : IsFound c number index t) {phase : Phase}
    (current : current_phase t.call.phases ≡ Some phase) where
  pub phase_members : length (layout_at (state_of c).object phase.position).members ≡ phase.members
  phase_members =
      let last = last_at t.call.phases phase current in
      let phases = (found.kept.sound.legal.calls index t.call (at found)).phases in
      sym (all_get (IsTruePhase (state_of c).object) t.call.phases last.place phase phases last.within).sized.members

  pub phase_call : phase.call ≡ number
  phase_call =
      let last = last_at t.call.phases phase current in
      let numbered = (found.kept.sound.legal.calls index t.call (at found)).numbered in
      (numbered_at _ 1 t.call.phases last.place phase numbered last.within).0
      ∙ found.kept.numbered index t.call (at found) ∙ found.named

module _ {c : Contents} {number index : ℕ} {t : Tracked} {step : Step} {cause : ℕ → Option Refusal} {coded : Option Coding}
    (a : IsAsking c number index t step cause coded) where
  pub again_pieces : (p : Phase) → current_phase t.call.phases ≡ Some p → HavePieces p.kind p.members coded
  again_pieces p current =
      subst (λ (q : Phase). HavePieces q.kind q.members coded) (same_Some a.phase p (sym a.current ∙ current)) a.sends

  module _ (now : ℕ) where
    abbrev mail_again : List Message
    mail_again = c.mail ++ asked_again number a.phase a.servers c.mail (piece_from coded)

    again_sound : {s : State} → state_of c ≡ s → s.last < now
        → IsSound fragment (state_of (record c { mail = mail_again; last = now })).object now
    again_sound view after =
        subst (λ (r : State). IsSound fragment r.object now) (a.makes now) (steps_on c now step (later c view after) a.found.kept a.may)

    pub again_room : {s : State} → state_of c ≡ s → s.last < now → (p : Phase) (servers : List ℕ) → current_phase t.call.phases ≡ Some p
        → length servers ≡ p.members → HasRoomIfFew (c.mail ++ asked_again number p servers c.mail (piece_from coded))
    again_room view after p servers current count =
        let q = a.phase in
        let same : q ≡ p = same_Some q p (sym a.current ∙ current) in
        subst (λ (x : Phase). HasRoomIfFew (c.mail ++ asked_again number x servers c.mail (piece_from coded))) same
        (subst (λ rs. HasRoomIfFew (c.mail ++ missing c.mail (members_of q.replies) rs))
        (requests_length number q.number q.kind q.position a.servers servers 0 (piece_from coded)
        (a.members ∙ ap (λ (x : Phase). x.members) same ∙ sym count))
        (sound_room _ now (again_sound view after)))

    -- what the mail is made
    abbrev pub IsMadeAgain : List Message → Type 0
    IsMadeAgain mail = (p : Phase) (servers : List ℕ) → current_phase t.call.phases ≡ Some p → length servers ≡ p.members
        → mail ≡ c.mail ++ asked_again number p servers c.mail (piece_from coded)

    pub again_step : {mail : List Message} → IsMadeAgain mail → state_of (record c { mail = mail; last = now }) ≡ made step now (state_of c)
    again_step is = ap (λ ms. state_of (record c { mail = ms; last = now })) (is a.phase a.servers a.current a.members) ∙ sym (a.makes now)

    pub again_kept : {mail : List Message} → IsMadeAgain mail → {s : State} → state_of c ≡ s → s.last < now
        → IsKept (record c { mail = mail; last = now })
    again_kept is view after =
        subst (λ ms. IsKept (record c { mail = ms; last = now })) (sym (is a.phase a.servers a.current a.members))
        (mail_kept c mail_again now a.found.kept (again_sound view after))

    -- why it is refused
    again_cause : now ≤ MOST_STEPS → cause now ≡ mail_cause mail_again
    again_cause most =
        a.causes now ∙ step_within now (mail_cause (stepped fragment step now (state_of c).object).mail) most
        ∙ ap (λ (r : State). mail_cause r.object.mail) (a.makes now)

    pub again_by : now ≤ MOST_STEPS → (P : Option Refusal → Type 0)
        → ((p : Phase) (servers : List ℕ) → current_phase t.call.phases ≡ Some p → length servers ≡ p.members
        → P (mail_cause (c.mail ++ asked_again number p servers c.mail (piece_from coded)))) → P (cause now)
    again_by most P by = subst P (sym (again_cause most)) (by a.phase a.servers a.current a.members)
