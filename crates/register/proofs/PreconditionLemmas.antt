-- A step that no cause refuses may be made.
use Rattle.std.proofs.Common.{◌≡◌, ℕ, zero, suc, pred, true, false, not, nat_le, length, slice_get}
use Rattle.std.proofs.Common.{Option, Some, None, refl, sym, ap, subst, ◌∙◌}
use Rattle.tag.specs.declared.limits.TheConstants.{LONGEST_VALUE}
use Rattle.tag.specs.declared.refusal.Refusal.{Refusal}
use Rattle.decoder.specs.Decoded.{Decoding}
use Rattle.encoder.specs.Coded.{Coding}
use Rattle.encoder.specs.Fragment.{fragment}
use Rattle.mail.specs.declared.message.Message.{Message}
use Rattle.mail.specs.declared.message.Body.{Body}
use Rattle.mail.specs.declared.message.Body.TheVariants as body
use Rattle.mail.specs.Phase.{Phase}
use Rattle.record.specs.Preconditions.{MayStep}
use Rattle.record.specs.Records.{Call, Object, layout_at}
use Rattle.record.specs.Steps.{Step}
use Rattle.record.specs.Wants.{current_phase, want_of}
use Rattle.record.specs.declared.stage.Want.{Want}
use Rattle.record.specs.declared.stage.Want.TheVariants as want
use Rattle.register.specs.Act.{HasLawfulValues, act_cause, step_of}
use Rattle.register.specs.Causes.{if_call, if_message, if_settle, call_at, is_answer, is_plain, may_post}
use Rattle.register.specs.Causes.{is_decoded_in, served_cause, supplied_cause, taken_cause}
use Rattle.register.specs.Coding.{is_decoded_from, pieces_due}
use Rattle.register.specs.Kept.{IsKept, has_open_move}
use Rattle.register.specs.State.{Contents, next_id, state_of}
use Rattle.register.specs.Tracked.{Tracked}
use Rattle.register.specs.declared.act.Act.{Act}
use Rattle.register.specs.declared.act.Act.TheVariants as act
use Rattle.register.proofs.AdvanceLemmas.{wants_it}
use Rattle.register.proofs.FoundCallLemmas.{IsFound, IsWanting, at_place}
use Rattle.register.proofs.ListLemmas.{found_of_map}
use Rattle.register.proofs.NewMoveLemmas.{none_open}
use Rattle.register.proofs.PostLemmas.{plain_phase, no_pre}
use Rattle.register.proofs.RoomLemmas.{le_of, not_true, passed}
use Rattle.register.proofs.SentPieceLemmas.{takes}
use Rattle.register.proofs.SettleLemmas.{k_is, may_settle}
use Rattle.register.proofs.StepInvariantLemmas.{next_is_new}

answer_is : (w : Want) → is_answer w ≡ true → w ≡ want.Answer
answer_is want.Answer e = refl
answer_is _ e = absurd (cc)

-- a call that may post wants replies, and its current phase sends no pieces
post_is : (w : Want) (phase : Option Phase) → may_post w phase ≡ true → (w ≡ want.Replies) × (is_plain phase ≡ true)
post_is want.Replies phase e = (refl, e)
post_is _ phase e = absurd (cc)

-- the call wants to settle a value
record IsSettling (w : Want) (later : Option Refusal) : Type 0 where
  pub k : ℕ
  pub len : ℕ
  pub wants : w ≡ want.Settle k len
  pub free : later ≡ None

settling_is : (w : Want) (later : Option Refusal) → if_settle w later ≡ None → IsSettling w later
settling_is (want.Settle k len) later none = record { k = k; len = len; wants = refl; free = none }
settling_is _ later none = absurd (cc)

decoded_phase : (object : Object) (phase : Option Phase) (decoded : Decoding) → is_decoded_in object phase decoded ≡ true
    → (p : Phase) × (phase ≡ Some p) × (is_decoded_from (layout_at object p.position).k p.replies decoded ≡ true)
decoded_phase object None decoded e = absurd (cc)
decoded_phase object (Some p) decoded e = (p, refl, e)

-- Messages

pub some_message : (found : Option Message) (cause : Message → Option Refusal) → if_message found cause ≡ None
    → (message : Message) × (found ≡ Some message) × (cause message ≡ None)
some_message None cause none = absurd (cc)
some_message (Some message) cause none = (message, refl, none)

module _ (now : ℕ) (object : Object) where
  may_serve : (place : ℕ) (message : Message) (it : Body) → slice_get object.mail place ≡ Some message → message.body ≡ it
      → served_cause now object it ≡ None → MayStep fragment object (Step.Serve place)
  may_serve place message (body.Request asked) at is none = (message, (at, (asked, is)))
  may_serve place message (body.Reply kind made) at is none = absurd (cc)

  may_take : (place : ℕ) (message : Message) (it : Body) → slice_get object.mail place ≡ Some message → message.body ≡ it
      → taken_cause now it ≡ None → MayStep fragment object (Step.Take place)
  may_take place message (body.Request asked) at is none = absurd (cc)
  may_take place message (body.Reply kind made) at is none = (message, (at, (kind, made, is)))

-- Calls

module _ (c : Contents) (kept : IsKept c) where
  abbrev object : Object
  object = (state_of c).object

  -- the call of this number is there, and has no cause
  record IsFree (number : ℕ) (cause : Call → Option Refusal) : Type 0 where
    pub index : ℕ
    pub t : Tracked
    pub found : IsFound c number index t
    pub free : cause t.call ≡ None

  free_call : (number : ℕ) (cause : Call → Option Refusal) → if_call (call_at object number) cause ≡ None → IsFree number cause
  free_call zero cause none = absurd (cc)
  free_call (suc index) cause none = go (slice_get object.calls index) refl none
    where
      go : (o : Option Call) → slice_get object.calls index ≡ o → if_call o cause ≡ None → IsFree (suc index) cause
      go None at none = absurd (cc)
      go (Some call) at none =
          let t = found_of_map (λ (t : Tracked). t.call) c.calls index call at in
          record {
            index = index;
            t = t.0;
            found = record { kept = kept; named = refl; there = t.1 };
            free = subst (λ (call : Call). cause call ≡ None) (sym t.2) none;
          }

  may_supply : (now number index : ℕ) (t : Tracked) (coded : Coding) → IsFound c number index t → (to : Option ℕ)
      → pieces_due object (pred number) t.call ≡ to → supplied_cause now object (pred number) t.call coded to ≡ None
      → MayStep fragment object (Step.Supply (pred number))
  may_supply now number index t coded found None is none = absurd (cc)
  may_supply now number index t coded found (Some position) is none =
      record { call = t.call; takes = takes (record { found = found; due = is }) }

  -- an act
  pub may_act : (now : ℕ) (a : Act) → HasLawfulValues a → act_cause a now object ≡ None
      → MayStep fragment object (step_of (next_id object) a)
  may_act now act.CallRead lawful none = next_is_new c kept
  may_act now (act.CallWrite value) bytes none = (
    next_is_new c kept,
    (bytes, le_of (length value) LONGEST_VALUE (passed (nat_le (length value) LONGEST_VALUE) _ _ none).0),
  )
  may_act now (act.CallMove layout) lawful none = (
    next_is_new c kept,
    lawful,
    none_open object (not_true (has_open_move object.calls)
        (passed (not (has_open_move object.calls)) _ _ none).0),
  )
  may_act now (act.Advance number) lawful none =
      let f = free_call number _ none in
      (f.t.call, (at_place f.found, wants_it false (want_of object (pred number) f.t.call) (passed _ _ _ f.free).0))
  may_act now (act.Again number) lawful none =
      let f = free_call number _ none in
      (f.t.call, (at_place f.found, wants_it true (want_of object (pred number) f.t.call) (passed _ _ _ f.free).0))
  may_act now (act.Supply number coded) lawful none =
      let f = free_call number _ none in
      may_supply now number f.index f.t coded f.found (pieces_due object (pred number) f.t.call) refl f.free
  may_act now (act.Post number) lawful none =
      let f = free_call number _ none in
      let post = post_is (want_of object (pred number) f.t.call) (current_phase f.t.call.phases) (passed _ _ _ f.free).0 in
      let plain = plain_phase (current_phase f.t.call.phases) post.1 in
      record {
        call = f.t.call;
        phase = plain.0;
        waiting = record { wants = (at_place f.found, post.0); current = plain.1 };
        plain = λ pre. no_pre plain.0.kind plain.2 pre.0 pre.1;
      }
  may_act now (act.Settle number decoded) is none =
      let f = free_call number _ none in
      let s = settling_is (want_of object (pred number) f.t.call) _ f.free in
      let d = decoded_phase object (current_phase f.t.call.phases) decoded (passed _ _ _ s.free).0 in
      let w : IsWanting c number f.index f.t (want.Settle s.k s.len) = record { found = f.found; wants = s.wants } in
      may_settle w d.1 decoded is (ap (λ k. is_decoded_from k d.0.replies decoded) (k_is w d.1) ∙ d.2)
  may_act now (act.Answer number) lawful none =
      let f = free_call number _ none in
      (f.t.call, (at_place f.found, answer_is (want_of object (pred number) f.t.call) (passed _ _ _ f.free).0))
  may_act now (act.Serve place) lawful none =
      let m = some_message (slice_get object.mail place) _ none in may_serve now object place m.0 m.0.body m.1 refl m.2
  may_act now (act.Take place) lawful none =
      let m = some_message (slice_get object.mail place) _ none in may_take now object place m.0 m.0.body m.1 refl m.2
  may_act now (act.Lose place) lawful none =
      let m = some_message (slice_get object.mail place) _ none in (m.0, m.1)
  may_act now (act.Repeat place) lawful none =
      let m = some_message (slice_get object.mail place) _ none in (m.0, m.1)
