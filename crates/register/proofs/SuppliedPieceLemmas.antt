-- A call is supplied with the pieces of its value: they begin the phase that is due, or go out again.
use Rattle.std.proofs.Common.{◌≡◌, ℕ, pred, ◌<◌, nat_lt, Bool, true, false, cond, is_some, List, length, get_or}
use Rattle.std.proofs.Common.{Option, Some, None, sym, ap, subst, ◌∙◌, refl}
use Rattle.std.specs.Cmp.Lexicographic.{same_text}
use Rattle.std.proofs.lemmas.Bool.{eqb-true}
use Rattle.std.proofs.lemmas.Option.{same_Some}
use Rattle.tag.specs.declared.limits.TheConstants.{MOST_PHASES, MOST_STEPS}
use Rattle.tag.specs.declared.refusal.Refusal.{Refusal}
use Rattle.tag.specs.declared.refusal.Refusal.TheVariants.{WrongCode, Full}
use Rattle.bank.specs.declared.kind.Kind.{Kind}
use Rattle.bank.specs.declared.kind.Kind.TheVariants.{PreWrite}
use Rattle.mail.specs.Mail.{mail_cause}
use Rattle.encoder.specs.Coded.{Coding}
use Rattle.encoder.specs.Fragment.{fragment, piece_at_point}
use Rattle.layout.specs.Layout.{Layout}
use Rattle.mail.specs.Phase.{Phase}
use Rattle.record.specs.Records.{Call, Object, layout_at}
use Rattle.record.specs.Steps.{Step, stepped, on_call, advanced_object}
use Rattle.record.specs.Sending.{sent_value, value_or_empty, fragment_piece, sent_pieces}
use Rattle.record.specs.Steps.{supplied_by, supplied_object}
use Rattle.record.specs.Steps as steps
use Rattle.record.specs.Wants.{current_phase}
use Rattle.register.specs.Causes.{call_at, supply_cause, supplied_cause, supply_room_cause, is_replied, if_step, unless}
use Rattle.call.specs.Pieces.{piece_from, HavePieces}
use Rattle.register.specs.Coding.{is_coded_for, pieces_due}
use Rattle.register.specs.Position.{Position}
use Rattle.register.specs.State.{Contents, State, state_of}
use Rattle.register.specs.Tracked.{Tracked}
use Rattle.register.proofs.FoundCallLemmas.{IsFound, at, at_number, caused}
use Rattle.register.proofs.RoomLemmas.{step_past}
use Rattle.register.proofs.SentPieceLemmas.{IsSendingTo, or_empty, layout_there, sent_value_there}
use Rattle.register.proofs.RecordedPieceLemmas.{both_left, both_right}

pub none_of : {X : Type 0} (o : Option X) → ((x : X) → o ≡ Some x → ⊥) → o ≡ None
none_of None no_some = refl
none_of (Some x) no_some = absurd (no_some x refl)

filled : (o : Option (List ℕ)) → (None ≡ o → ⊥) → Some (value_or_empty o) ≡ o
filled None some = absurd (some refl)
filled (Some value) some = refl

-- a call that was read is to send the pieces of this value, and it is coded for the layout that they go to
pub record IsSupplied (c : Contents) (number index : ℕ) (t : Tracked) (coded : Coding) (position : ℕ) (layout : Layout)
    (value : List ℕ) : Type 0 where
  pub to : IsSendingTo c number index t (Some position)
  pub placed : layout_at (state_of c).object position ≡ layout
  pub sent : Some value ≡ sent_value t.call.kind t.call.settled
  pub right : is_coded_for layout value coded ≡ true

pub supplied : {c : Contents} {number index position : ℕ} {t : Tracked} {coded : Coding} {here : Position} {layout : Layout}
    {value : List ℕ}
    {right : Bool} → IsSendingTo c number index t (Some position) → here ≡ get_or c.positions position here → layout ≡ here.layout
    → Some value ≡ sent_value t.call.kind t.call.settled → right ≡ is_coded_for layout value coded → right ≡ true
    → IsSupplied c number index t coded position layout value
supplied to read is_layout sent tested passed = record {
  to = to;
  placed = layout_there to read is_layout;
  sent = sent;
  right = sym tested ∙ passed;
}

pub unsent_is : {c : Contents} {number index : ℕ} {t : Tracked} {to : Option ℕ} → IsSendingTo c number index t to
    → (coded : Coding) (now : ℕ)
    → supply_cause now (state_of c).object number coded ≡ supplied_cause now (state_of c).object (pred number) t.call coded to
unsent_is {c = c} {number = number} {t = t} s coded now =
    caused s.found _ ∙ ap (supplied_cause now (state_of c).object (pred number) t.call coded) s.due

-- once the position is known, the code is tested, and then the room
module _ {c : Contents} {number index position : ℕ} {t : Tracked}
    (to : IsSendingTo c number index t (Some position)) {layout : Layout} {value : List ℕ}
    (placed : layout_at (state_of c).object position ≡ layout) (sent : Some value ≡ sent_value t.call.kind t.call.settled) (coded : Coding)
    (now : ℕ) where
  abbrev room : Option Refusal
  room = supply_room_cause now (state_of c).object (pred number) t.call

  tested_is : supply_cause now (state_of c).object number coded ≡ unless (is_coded_for layout value coded) WrongCode room
  tested_is = cc (unsent_is to coded now, placed, or_empty (sent_value t.call.kind t.call.settled) value sent)

  pub wrong_is : is_coded_for layout value coded ≡ false → supply_cause now (state_of c).object number coded ≡ Some WrongCode
  wrong_is wrong = tested_is ∙ ap (λ b. unless b WrongCode room) wrong

-- past the limit of steps both ways are full
pub past_both : (now : ℕ) (b : Bool) (x y : Option Refusal) → MOST_STEPS < now → cond b (if_step now x) (if_step now y) ≡ Some Full
past_both now true x y past = step_past now x past
past_both now false x y past = step_past now y past

module _ {c : Contents} {number index : ℕ} {t : Tracked} {coded : Coding} {position : ℕ} {layout : Layout} {value : List ℕ}
    (s : IsSupplied c number index t coded position layout value) where
  abbrev pub object : Object
  object = (state_of c).object

  abbrev found : IsFound c number index t
  found = s.to.found

  pub members_are : coded.n ≡ length layout.members
  members_are = eqb-true coded.n (length layout.members) (both_right _ _ (both_right _ _ s.right))

  -- the pieces of the coded value are those that the call sends
  pub pieces_are : sent_pieces fragment object t.call position ≡ piece_from (Some coded)
  pieces_are =
      ap (λ (l : Layout). λ (m : ℕ). fragment_piece fragment l (value_or_empty (sent_value t.call.kind t.call.settled)) m) s.placed
      ∙ ap (λ (v : List ℕ). λ (m : ℕ). fragment_piece fragment layout v m)
      (or_empty (sent_value t.call.kind t.call.settled) value s.sent ∙ sym (same_text coded.value value (sym (both_left _ _ s.right))))
      ∙ ap (λ (k : ℕ). λ (m : ℕ). piece_at_point coded.value k m) (sym (eqb-true coded.k layout.k (both_left _ _ (both_right _ _ s.right))))

  pub room_is : (now : ℕ) → supply_cause now object number coded ≡ supply_room_cause now object (pred number) t.call
  room_is now = cc (tested_is s.to s.placed s.sent coded now, s.right)

  pub past_full : (now : ℕ) → MOST_STEPS < now → supply_cause now object number coded ≡ Some Full
  past_full now past =
      let made_mail = (stepped fragment (Step.Supply (pred number)) now object).mail in
      room_is now
      ∙ past_both now (is_replied (current_phase t.call.phases))
      (unless (nat_lt (length t.call.phases) MOST_PHASES) Full (mail_cause made_mail)) (mail_cause made_mail) past

  -- the step, once the current phase is known
  pub step_is : (now : ℕ) (phase : Phase) → current_phase t.call.phases ≡ Some phase → (ended : Bool) → is_some phase.end ≡ ended →
      stepped fragment (Step.Supply (pred number)) now object
      ≡ cond ended (advanced_object fragment object index t.call now) (steps.asked_again fragment object t.call (Some phase))
  step_is now phase current ended is =
      subst (λ n. stepped fragment (Step.Supply (pred n)) now object ≡ stepped fragment (Step.Supply index) now object) found.named refl
      ∙ ap (λ o. on_call object o (λ call. supplied_object fragment object index call now)) (at found)
      ∙ ap (λ o. supplied_by fragment object index t.call now o) current
      ∙ ap (λ b. cond b (advanced_object fragment object index t.call now) (steps.asked_again fragment object t.call (Some phase))) is

-- an encoded value with a piece for each member is enough for a phase of any kind
pub have_coded : (kind : Kind) (members : ℕ) (coded : Coding) → coded.n ≡ members → HavePieces kind members (Some coded)
have_coded (PreWrite tag) members coded enough = enough
have_coded _ members coded enough = tt

-- what is told of the call of this number: where its pieces go, and that they are coded for that
abbrev pub Sends : (number position : ℕ) → Coding → Object → Call → Type 0
Sends number position coded o call = (pieces_due o (pred number) call ≡ Some position)
    × (is_coded_for (layout_at o position) (value_or_empty (sent_value call.kind call.settled)) coded ≡ true)

module _ {c : Contents} {number index position : ℕ} {t : Tracked} where
  pub tell_sends : {coded : Coding} {layout : Layout} {value : List ℕ} → IsSupplied c number index t coded position layout value
      → (asked : Call) → call_at (state_of c).object number ≡ Some asked → Sends number position coded (state_of c).object asked
  tell_sends {coded = coded} {layout = layout} {value = value} s asked there =
      subst (Sends number position coded (state_of c).object) (same_Some t.call asked (sym (at_number s.to.found) ∙ there)) (
        s.to.due,
        ap (λ (l : Layout). is_coded_for l (value_or_empty (sent_value t.call.kind t.call.settled)) coded) s.placed
            ∙ ap (λ (v : List ℕ). is_coded_for layout v coded) (or_empty (sent_value t.call.kind t.call.settled) value s.sent) ∙ s.right,
      )

  -- what was told of it
  module _ (coded : Coding) (found : IsFound c number index t) {s : State} (view : state_of c ≡ s)
      (told : (asked : Call) → call_at s.object number ≡ Some asked → Sends number position coded s.object asked) where
    both : Sends number position coded (state_of c).object t.call
    both =
        subst (λ (r : State). (asked : Call) → call_at r.object number ≡ Some asked → Sends number position coded r.object asked)
        (sym view) told t.call (at_number found)

    pub sends_to : IsSendingTo c number index t (Some position)
    sends_to = record { found = found; due = both.0 }

    pub supplied_to : {layout : Layout} → layout_at (state_of c).object position ≡ layout
        → IsSupplied c number index t coded position layout (value_or_empty (sent_value t.call.kind t.call.settled))
    supplied_to {layout = layout} placed = record {
      to = sends_to;
      placed = placed;
      sent = filled (sent_value t.call.kind t.call.settled) (sent_value_there sends_to);
      right = ap (λ (l : Layout). is_coded_for l (value_or_empty (sent_value t.call.kind t.call.settled)) coded) (sym placed) ∙ both.1;
    }

    pub supplied_there : {here : Position} {layout : Layout} → here ≡ get_or c.positions position here → layout ≡ here.layout
        → IsSupplied c number index t coded position layout (value_or_empty (sent_value t.call.kind t.call.settled))
    supplied_there read is = supplied_to (layout_there sends_to read is)
