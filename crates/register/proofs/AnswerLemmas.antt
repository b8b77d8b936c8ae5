-- What the answer of a call makes of a register.
use Rattle.std.proofs.Common.{◌≡◌, ℕ, pred, ◌<◌, ◌≤◌, ◌⊎◌, Bool, true, false, ◌&&◌, not, is_some, List, length, get_or, set, option_map}
use Rattle.std.proofs.Common.{Option, Some, None, refl, sym, subst, ap, ◌∙◌, inl, inr, arith, slice_get}
use Rattle.std.proofs.lemmas.Bool.{cases_eq}
use Rattle.std.proofs.lemmas.Option.{same_Some}
use Rattle.tag.specs.declared.limits.TheConstants.{MOST_PHASES, MOST_STEPS}
use Rattle.tag.specs.declared.refusal.Refusal.TheVariants.{NotNow, Full}
use Rattle.encoder.specs.Fragment.{fragment}
use Rattle.soundness.proofs.ListLemmas.{all_get, get_set, set_here}
use Rattle.soundness.proofs.Sound.WantPreconditionLemmas.{answer_ready}
use Rattle.record.specs.declared.call.CallKind.{CallKind}
use Rattle.record.specs.declared.call.CallKind.TheVariants.{Read, Write, Move}
use Rattle.record.specs.declared.call.Operation.{Operation}
use Rattle.record.specs.declared.call.Operation.TheVariants as operations
use Rattle.record.specs.declared.stage.Want.{Want}
use Rattle.record.specs.declared.stage.Want.TheVariants as want
use Rattle.record.specs.Journals.{operation_of, entry_value}
use Rattle.record.specs.Legal.{is_move}
use Rattle.record.specs.Records.{Call, Object}
use Rattle.soundness.specs.Sound.{IsSound}
use Rattle.record.specs.Steps.{Step, stepped, on_call, answered_object}
use Rattle.register.specs.Causes.{unless, if_step, is_answer, answer_cause}
use Rattle.register.specs.Kept.{is_open_move, has_open_move, IsKept}
use Rattle.register.specs.Position.{layouts_of, banks_of}
use Rattle.register.specs.State.{Contents, State, state_of, made}
use Rattle.register.specs.Tracked.{Tracked, calls_of}
use Rattle.register.specs.View.{receipt_at, receipt_of}
use Rattle.std.proofs.lemmas.List.{map-set}
use Rattle.register.proofs.ListLemmas.{any_put}
use Rattle.register.proofs.StepInvariantLemmas.{call_kept, steps_on}
use Rattle.register.proofs.RoomLemmas.{step_within, step_past}
use Rattle.register.proofs.ChangedCallLemmas.{any_none}
use Rattle.register.proofs.FoundCallLemmas.{IsFound, IsWanting, at, at_place, at_number, same, caused, later}

not_answer : (w : Want) → (w ≡ want.Answer → ⊥) → is_answer w ≡ false
not_answer want.Answer other = absurd (other refl)
not_answer _ other = refl

-- a call with an answer
abbrev pub answered_tracked : Tracked → (now : ℕ) → Tracked
answered_tracked t now = record { call = record t.call { answered = Some now }; stage = t.stage }

-- a move with an answer is not open
closed : (call : Call) → (kind : CallKind) → call.kind ≡ kind → (kind ≡ Move → (step : ℕ) × (call.answered ≡ Some step))
    → is_open_move call ≡ false
closed call Move e answered =
    ap (λ k. is_move k && not (is_some call.answered)) e ∙ ap (λ (o : Option ℕ). is_move Move && not (is_some o)) (answered refl).1
closed call _ e answered = ap (λ k. is_move k && not (is_some call.answered)) e

and_false : (b : Bool) → (b && false) ≡ false
and_false true = refl
and_false false = refl

answer_by : {c : Contents} {number index : ℕ} {t : Tracked} {w : Want} → IsWanting c number index t w → (now : ℕ)
    → answer_cause now (state_of c).object number ≡ unless (is_answer w) NotNow (if_step now None)
answer_by wanted now = caused wanted.found _ ∙ ap (λ v. unless (is_answer v) NotNow (if_step now None)) wanted.wants

pub answer_refused : {c : Contents} {number index : ℕ} {t : Tracked} {w : Want} → IsWanting c number index t w → (now : ℕ)
    → (w ≡ want.Answer → ⊥)
    → answer_cause now (state_of c).object number ≡ Some NotNow
answer_refused {w = w} wanted now other = answer_by wanted now ∙ ap (λ b. unless b NotNow (if_step now None)) (not_answer w other)

-- where the call wants to be answered
module _ {c : Contents} {number index : ℕ} {t : Tracked} (wanted : IsWanting c number index t want.Answer) (now : ℕ) where
  abbrev object : Object
  object = (state_of c).object

  abbrev new : Tracked
  new = answered_tracked t now

  abbrev kept : IsKept c
  kept = wanted.found.kept

  there : slice_get object.calls index ≡ Some t.call
  there = at wanted.found

  pub answer_cause_none : now ≤ MOST_STEPS → answer_cause now (state_of c).object number ≡ None
  answer_cause_none within = answer_by wanted now ∙ step_within now None within

  -- past the limit of steps
  pub answer_past : MOST_STEPS < now → answer_cause now (state_of c).object number ≡ Some Full
  answer_past past = answer_by wanted now ∙ step_past now None past

  answer_is : (moving : Bool) → made (Step.AnswerCall (pred number)) now (state_of c)
      ≡ state_of (record c { calls = set c.calls index new; is_moving = moving; last = now })
  answer_is moving =
      ap (λ o. record { object = o; last = now })
      (subst (λ n. stepped fragment (Step.AnswerCall (pred n)) now object ≡ stepped fragment (Step.AnswerCall index) now object)
      wanted.found.named refl
      ∙ ap (λ o. on_call object o (λ call. answered_object object index call now)) there
      ∙ ap (λ cs. record { delta = c.delta; layouts = layouts_of c.positions; banks = banks_of c.positions; mail = c.mail; calls = cs })
      (sym (map-set (λ (u : Tracked). u.call) c.calls index new)))

  as_set : calls_of (set c.calls index new) ≡ set (calls_of c.calls) index new.call
  as_set = map-set (λ (u : Tracked). u.call) c.calls index new

  -- no other move is open
  others : t.call.kind ≡ Move → (i : ℕ) (x : Call) → slice_get (set object.calls index new.call) i ≡ Some x → is_open_move x ≡ false
  others moves i x e = go (cases_eq i index)
    where
      open_call : t.call.answered ≡ None
      open_call = (answer_ready object (pred number) t.call wanted.wants).0.open_call

      none_some : (step : ℕ) → t.call.answered ≡ Some step → ⊥
      none_some step a = let clash : None ≡ Some step = sym open_call ∙ a in absurd (cc)

      away : (i ≡ index → ⊥) → ((i ≡ index) × (new.call ≡ x)) ⊎ (slice_get object.calls i ≡ Some x) → slice_get object.calls i ≡ Some x
      away apart (inl here) = absurd (apart here.0)
      away apart (inr found) = found

      order : (i ≡ index → ⊥) → slice_get object.calls i ≡ Some x → (i < index) ⊎ (index < i) → x.kind ≡ Move
          → (step : ℕ) × (x.answered ≡ Some step)
      order apart found (inl before) kind = let m = kept.sound.legal.moves i index x t.call found there before kind moves in (m.0, m.1)
      order apart found (inr behind) kind = let m =
          kept.sound.legal.moves index i t.call x there found behind moves kind in absurd (none_some m.0 m.1)

      go : (i ≡ index) ⊎ (i ≡ index → ⊥) → is_open_move x ≡ false
      go (inl here) =
          ap is_open_move (same_Some x new.call (sym e ∙ ap (λ j. slice_get (set object.calls index new.call) j) here
          ∙ set_here object.calls index t.call new.call there))
          ∙ and_false (is_move t.call.kind)
      go (inr apart) =
          let found = away apart (get_set object.calls index i t.call new.call x there e) in
          closed x x.kind refl (order apart found (grind (arith, apart)))

  still : (moving : Bool) → (operation_of t.call.kind ≡ operations.Move → moving ≡ false)
      → ((operation_of t.call.kind ≡ operations.Move → ⊥) → moving ≡ c.is_moving) →
      moving ≡ has_open_move (calls_of (set c.calls index new))
  still moving ended same = go t.call.kind refl
    where
      unmoved : is_move t.call.kind ≡ false → has_open_move (calls_of (set c.calls index new)) ≡ has_open_move object.calls
      unmoved other =
          ap has_open_move as_set ∙ any_put is_open_move object.calls index t.call new.call there
          (ap (λ b. b && not (is_some (Some now))) other ∙ sym (ap (λ b. b && not (is_some t.call.answered)) other))

      go : (kind : CallKind) → t.call.kind ≡ kind → moving ≡ has_open_move (calls_of (set c.calls index new))
      go Read e =
          same (λ m. let clash : operations.Read ≡ operations.Move = sym (ap operation_of e) ∙ m in absurd (cc)) ∙ kept.moving
          ∙ sym (unmoved (ap is_move e))
      go (Write value) e =
          same (λ m. let clash : operations.Write ≡ operations.Move = sym (ap operation_of e) ∙ m in absurd (cc)) ∙ kept.moving
          ∙ sym (unmoved (ap is_move e))
      go Move e = cc (ended (ap operation_of e), as_set, any_none is_open_move (set object.calls index new.call) (others e))

  answered_kept : c.last < now → (moving : Bool) → moving ≡ has_open_move (calls_of (set c.calls index new)) →
      IsKept (record c { calls = set c.calls index new; is_moving = moving; last = now })
  answered_kept after moving is =
      call_kept c index now t new c.mail moving kept wanted.found.there refl refl (kept.staged index t wanted.found.there)
      (all_get (λ (call : Call). length call.phases ≤ MOST_PHASES) object.calls index t.call kept.limits.phases there) is
      (subst (λ (s : State). IsSound fragment s.object now) (answer_is moving)
      (steps_on c now (Step.AnswerCall (pred number)) after kept (t.call, (at_place wanted.found, wanted.wants))))

  -- what the call and the mark of a move are made, from what is read again
  module _ {old made_call : Tracked} (read : old ≡ get_or c.calls index old) (made_is : made_call ≡ answered_tracked old now) where
    same_new : made_call ≡ new
    same_new = made_is ∙ ap (λ (u : Tracked). answered_tracked u now) (sym (same wanted.found read))

    pub answer_step : (moving : Bool) → state_of (record c { calls = set c.calls index made_call; is_moving = moving; last = now })
        ≡ made (Step.AnswerCall (pred number)) now (state_of c)
    answer_step moving = cc (same_new, answer_is moving)

    pub answer_kept : {operation : Operation} {moving : Bool} → operation ≡ operation_of t.call.kind
        → (operation ≡ operations.Move → moving ≡ false)
        → ((operation ≡ operations.Move → ⊥) → moving ≡ c.is_moving) → {s : State} → state_of c ≡ s → s.last < now
        → IsKept (record c { calls = set c.calls index made_call; is_moving = moving; last = now })
    answer_kept {moving = moving} is ended unmoved view after =
        subst (λ u. IsKept (record c { calls = set c.calls index u; is_moving = moving; last = now })) (sym same_new)
        (answered_kept (later c view after) moving (still moving (λ e. ended (is ∙ e)) (λ other. unmoved (λ e. other (sym is ∙ e)))))

-- what is read again of a call's kind and step
pub operation_again : {c : Contents} {number index : ℕ} {t old : Tracked} {operation : Operation} → IsFound c number index t
    → old ≡ get_or c.calls index old → operation ≡ operation_of old.call.kind → operation ≡ operation_of t.call.kind
operation_again f read is = is ∙ ap (λ (u : Tracked). operation_of u.call.kind) (sym (same f read))

pub called_again : {c : Contents} {number index : ℕ} {t old : Tracked} {called : ℕ} → IsFound c number index t
    → old ≡ get_or c.calls index old → called ≡ old.call.called → called ≡ t.call.called
called_again f read is = is ∙ ap (λ (u : Tracked). u.call.called) (sym (same f read))

pub value_again : {c : Contents} {number index : ℕ} {t old : Tracked} {value : Option (List ℕ)} → IsFound c number index t → (now : ℕ)
    → old ≡ get_or c.calls index old → value ≡ entry_value old.call.kind (Some now) old.call.settled
    → value ≡ entry_value t.call.kind (Some now) t.call.settled
value_again f now read is = is ∙ ap (λ (u : Tracked). entry_value u.call.kind (Some now) u.call.settled) (sym (same f read))

pub receipt_is : {c : Contents} {number index : ℕ} {t : Tracked} → IsFound c number index t → (place now : ℕ)
    → {operation : Operation} {called : ℕ} {value : Option (List ℕ)} → operation ≡ operation_of t.call.kind → called ≡ t.call.called
    → value ≡ entry_value t.call.kind (Some now) t.call.settled
    → receipt_at (state_of c).object place number now
    ≡ Some (record { object = place; kind = operation; call = number; called = called; answered = now; value = value })
receipt_is {number = number} f place now operation_is called_is value_is =
    ap (option_map (receipt_of place number now)) (at_number f)
    ∙ (λ j. Some (record {
      object = place;
      kind = sym operation_is j;
      call = number;
      called = sym called_is j;
      answered = now;
      value = sym value_is j;
    }))
