-- The call of a number begins the phase that is due.
use Rattle.std.proofs.Common.{◌≡◌, ℕ, suc, pred, ◌<◌, Bool, true, false, length, get_or, slice_get}
use Rattle.std.proofs.Common.{Option, Some, None, IfSome, refl, sym, subst, ap, ◌∙◌, arith}
use Rattle.std.proofs.lemmas.Option.{same_Some}
use Rattle.tag.specs.declared.limits.TheConstants.{MOST_STEPS}
use Rattle.tag.specs.declared.refusal.Refusal.{Refusal}
use Rattle.tag.specs.declared.refusal.Refusal.TheVariants.{NotNow, Full}
use Rattle.tag.specs.declared.tag.Tag.{Tag}
use Rattle.layout.specs.Layout.{Layout}
use Rattle.encoder.specs.Fragment.{fragment}
use Rattle.bank.specs.declared.kind.Kind.{Kind}
use Rattle.bank.specs.declared.kind.Kind.TheVariants.{PreWrite}
use Rattle.record.specs.declared.stage.Stage.{Stage}
use Rattle.record.specs.declared.stage.Want.{Want}
use Rattle.record.specs.declared.stage.Want.TheVariants as want
use Rattle.record.specs.Records.{Call, Object, layout_at}
use Rattle.record.specs.PhaseOrder.{begun_at, due}
use Rattle.record.specs.Legal.{IsLegal, due_of}
use Rattle.record.specs.Preconditions.{MayStep}
use Rattle.record.specs.Wants.{Wants, want_of}
use Rattle.record.specs.Steps.{stepped, on_call, advanced_object}
use Rattle.record.specs.Sending.{sent_pieces}
use Rattle.soundness.proofs.Sound.WantPreconditionLemmas.{Plain, advance_ready, lacking_of}
use Rattle.soundness.proofs.Sound.RestartLemmas.{anew_due}
use Rattle.call.specs.StageLimits.{IsBelowLimit}
use Rattle.register.specs.Causes.{unless, call_at, wants_due, due_step, due_cause, new_phase_cause}
use Rattle.call.specs.Pieces.{piece_from, HavePieces}
use Rattle.register.specs.Position.{Position}
use Rattle.register.specs.State.{Contents, State, made, state_of}
use Rattle.register.specs.Tracked.{Tracked}
use Rattle.register.proofs.BeginPhaseLemmas.{IsBeginning}
use Rattle.register.proofs.ChangedCallLemmas.{below_limit, due_below, requests_plain, with_due, with_due_is}
use Rattle.register.proofs.FirstReadingLemmas.{begun_below}
use Rattle.register.proofs.FoundCallLemmas.{IsFound, IsWanting, at, at_number, at_place, place, same, below_due, due_kept, caused}
use Rattle.register.proofs.FoundCallLemmas.{wants_now}
use Rattle.register.proofs.RoomLemmas.{step_past}
use Rattle.register.proofs.SentPieceLemmas.{layout_read}
use Rattle.register.proofs.StepInvariantLemmas.{base_within, due_now, few_positions}

-- a call that is to begin the phase that is due wants it
abbrev pub wanted_for : (anew : Bool) → Want
wanted_for false = want.Advance
wanted_for true = want.Again

pub wants_it : (anew : Bool) (w : Want) → wants_due anew w ≡ true → w ≡ wanted_for anew
wants_it false want.Advance e = refl
wants_it true want.Again e = refl
wants_it _ _ e = absurd (cc)

below_kept : {c : Contents} {number index : ℕ} {t : Tracked} → IsFound c number index t
    → IfSome (due (begun_at t.stage c.base)) (λ asked. asked.1 < length c.positions)
below_kept {c = c} f = subst (λ next. IfSome next (λ asked. asked.1 < length c.positions)) (sym (due_kept f)) (below_due f)

-- the phase that is due has a next position in the machine's numbers
pub stage_below : {c : Contents} {number index : ℕ} {t : Tracked} {stage started : Stage} → IsFound c number index t
    → stage ≡ t.stage → started ≡ begun_at stage c.base → IsBelowLimit started
stage_below {c = c} {t = t} f is begins =
    subst IsBelowLimit (sym (begins ∙ ap (λ s. begun_at s c.base) is))
    (below_limit (length c.positions) (due (begun_at t.stage c.base)) (below_kept f) (few_positions c f.kept))

-- and so does the one that is kept
pub stage_near : {c : Contents} {number index : ℕ} {t : Tracked} {stage : Stage} → IsFound c number index t → stage ≡ t.stage
    → IsBelowLimit stage
stage_near {c = c} {t = t} f is =
    let within = base_within c f.kept in
    subst IsBelowLimit (sym is)
    (below_limit (length c.positions) (due t.stage)
    (begun_below (length c.positions) t.stage c.base (omega (arith, within)) (below_kept f)) (few_positions c f.kept))

-- the phase that is due, by the stage that is read again
pub due_read : {c : Contents} {number index : ℕ} {t old : Tracked} {stage started : Stage} {next to : Option (Kind × ℕ)}
    → IsFound c number index t → old ≡ get_or c.calls index old → stage ≡ old.stage → started ≡ begun_at stage c.base
    → next ≡ due started → next ≡ to → due (begun_at t.stage c.base) ≡ to
due_read {c = c} f read stage_is begins next_is is = cc (same f read)

pub due_there : {c : Contents} {number index : ℕ} {t : Tracked} {kind : Kind} {position : ℕ} → IsFound c number index t
    → due (begun_at t.stage c.base) ≡ Some (kind, position) → position < length c.positions
due_there {c = c} {t = t} {kind = kind} {position = position} f is =
    due_below (length c.positions) (due (begun_at t.stage c.base)) kind position (below_kept f) is

module _ {c : Contents} {number index : ℕ} {t : Tracked} {w : Want} (anew : Bool) (wanted : IsWanting c number index t w)
    (now : ℕ) where
  abbrev room : Option Refusal
  room = new_phase_cause (due_step anew (pred number)) now (state_of c).object t.call

  due_cause_by : (b : Bool) → wants_due anew w ≡ b → due_cause anew now (state_of c).object number ≡ unless b NotNow room
  due_cause_by b is =
      caused wanted.found _ ∙ ap (λ v. unless (wants_due anew v) NotNow room) wanted.wants ∙ ap (λ b. unless b NotNow room) is

  pub due_refused : wants_due anew w ≡ false → due_cause anew now (state_of c).object number ≡ Some NotNow
  due_refused = due_cause_by false

  -- past the limit of steps
  pub due_past : wants_due anew w ≡ true → MOST_STEPS < now → due_cause anew now (state_of c).object number ≡ Some Full
  due_past is past = due_cause_by true is ∙ step_past now _ past

-- what is told of the call of this number
pub tell_wants : {c : Contents} {number index : ℕ} {t : Tracked} {w : Want} (anew : Bool) → IsWanting c number index t w
    → wants_due anew w ≡ true → (asked : Call) → call_at (state_of c).object number ≡ Some asked
    → wants_due anew (want_of (state_of c).object (pred number) asked) ≡ true
tell_wants {c = c} {number = number} {t = t} anew w is asked there =
    subst (λ (call : Call). wants_due anew (want_of (state_of c).object (pred number) call) ≡ true)
    (same_Some t.call asked (sym (at_number w.found) ∙ there)) (ap (wants_due anew) w.wants ∙ is)

pub tell_due : {c : Contents} {number index : ℕ} {t : Tracked} {kind : Kind} {position : ℕ} → IsFound c number index t
    → due (begun_at t.stage c.base) ≡ Some (kind, position) → (asked : Call) → call_at (state_of c).object number ≡ Some asked
    → due_of (state_of c).object (pred number) asked ≡ Some (kind, position)
tell_due {c = c} {number = number} {t = t} {kind = kind} {position = position} f is asked there =
    subst (λ (call : Call). due_of (state_of c).object (pred number) call ≡ Some (kind, position))
    (same_Some t.call asked (sym (at_number f) ∙ there)) (sym (due_kept f) ∙ is)

-- what was told of the call of this number: it wants the phase that is due, and this phase is due
pub as_told : {c : Contents} {s : State} {number index : ℕ} {t : Tracked} {kind : Kind} {position : ℕ} (anew : Bool)
    → IsFound c number index t → state_of c ≡ s
    → ((asked : Call) → call_at s.object number ≡ Some asked → wants_due anew (want_of s.object (pred number) asked) ≡ true)
    → ((asked : Call) → call_at s.object number ≡ Some asked → due_of s.object (pred number) asked ≡ Some (kind, position))
    → (wants_due anew (want_of (state_of c).object (pred number) t.call) ≡ true) × (due (begun_at t.stage c.base) ≡ Some (kind, position))
as_told {number = number} {t = t} {kind = kind} {position = position} anew f view wants due_is = (
  subst (λ (r : State). (asked : Call) → call_at r.object number ≡ Some asked
      → wants_due anew (want_of r.object (pred number) asked) ≡ true) (sym view) wants t.call (at_number f),
  due_kept f ∙ subst (λ (r : State). (asked : Call) → call_at r.object number ≡ Some asked
      → due_of r.object (pred number) asked ≡ Some (kind, position)) (sym view) due_is t.call (at_number f),
)

-- the step begins the phase that is due, as it is or anew
due_stepped : (anew : Bool) (index now : ℕ) (object : Object)
    → stepped fragment (due_step anew index) now object
    ≡ on_call object (slice_get object.calls index) (λ call. advanced_object fragment object index call now)
due_stepped false index now object = refl
due_stepped true index now object = refl

may_begin : (anew : Bool) (index : ℕ) (object : Object) (call : Call) → Wants object index call (wanted_for anew)
    → MayStep fragment object (due_step anew index)
may_begin false index object call wants = (call, wants)
may_begin true index object call wants = (call, wants)

-- a phase that is due so sends no pieces
plain_due : (anew : Bool) (object : Object) → IsLegal object → (index : ℕ) (call : Call) → Wants object index call (wanted_for anew)
    → Plain (due_of object index call)
plain_due false object legal index call wants = (advance_ready object index call wants.1).1
plain_due true object legal index call wants = anew_due object legal index call wants.0 (lacking_of object index call wants.1)

-- a phase that sends no pieces needs no coded value
have_none : (kind : Kind) (members : ℕ) → ((tag : Tag) → kind ≡ PreWrite tag → ⊥) → HavePieces kind members None
have_none (PreWrite tag) members not_pre = not_pre tag refl
have_none _ members not_pre = tt

-- the call wants it
module _ {c : Contents} {number index : ℕ} {t : Tracked} {w : Want} (anew : Bool) (wanted : IsWanting c number index t w)
    (wants : wants_due anew w ≡ true) where
  both : Wants (state_of c).object (pred number) t.call (wanted_for anew)
  both = (at_place wanted.found, wanted.wants ∙ wants_it anew w wants)

  abbrev plain : Plain (due_of (state_of c).object (pred number) t.call)
  plain = plain_due anew (state_of c).object wanted.found.kept.sound.legal (pred number) t.call both

  -- so a phase is due
  some_due : due (begun_at t.stage c.base) ≡ None → ⊥
  some_due none =
      absurd (let clash : Some (plain.kind, plain.position) ≡ None = sym plain.is_due ∙ sym (due_kept wanted.found) ∙ none in cc)

-- where no phase is due the call wants none
pub due_nothing : {c : Contents} {number index : ℕ} {t : Tracked} (anew : Bool) → IsFound c number index t → (now : ℕ)
    → due (begun_at t.stage c.base) ≡ None → due_cause anew now (state_of c).object number ≡ Some NotNow
due_nothing {c = c} {number = number} {t = t} anew f now none =
    go (wants_due anew (want_of (state_of c).object (pred number) t.call)) refl
  where
    go : (b : Bool) → wants_due anew (want_of (state_of c).object (pred number) t.call) ≡ b
        → due_cause anew now (state_of c).object number ≡ Some NotNow
    go true is = absurd (some_due anew (wants_now f) is none)
    go false is = due_refused anew (wants_now f) now is

-- where this phase is due
module _ {c : Contents} {number index : ℕ} {t : Tracked} {w : Want} (anew : Bool) (wanted : IsWanting c number index t w)
    (wants : wants_due anew w ≡ true) {kind : Kind} {position : ℕ} (is_due : due (begun_at t.stage c.base) ≡ Some (kind, position)) where
  abbrev object : Object
  object = (state_of c).object

  abbrev owed : Plain (due_of object (pred number) t.call)
  owed = plain anew wanted wants

  abbrev next : Kind × ℕ
  next = (kind, position)

  abbrev seen : Kind × ℕ
  seen = (owed.kind, owed.position)

  same_next : seen ≡ next
  same_next = same_Some seen next (sym owed.is_due ∙ sym (due_kept wanted.found) ∙ is_due)

  no_pieces : (tag : Tag) → kind ≡ PreWrite tag → ⊥
  no_pieces tag e = owed.not_pre tag (ap (λ (n : Kind × ℕ). n.0) same_next ∙ e)

  pub needs_none : (members : ℕ) → HavePieces kind members None
  needs_none members = have_none kind members no_pieces

  module _ {layout : Layout} (placed : layout_at object position ≡ layout) (now : ℕ) where
    begun_is : made (due_step anew (pred number)) now (state_of c)
        ≡ state_of (with_due c index t kind position layout now (piece_from None))
    begun_is =
        let f = wanted.found in
        let sent = sent_pieces fragment object t.call position in
        let begins = with_due_is c index t kind position layout now sent placed (f.kept.numbered index t.call (at f)) in
        let phase = suc (length t.call.phases) in
        let plain = requests_plain (suc index) phase kind position layout.members 0 sent (piece_from None) no_pieces in
        cc (due_stepped anew (pred number) now object, place f, at f, due_now c f.kept index t f.there, is_due, begins, plain)

  -- the call, as it is read once more, begins that phase
  pub beginning : {here : Position} {layout : Layout} {old : Tracked} → here ≡ get_or c.positions position here → layout ≡ here.layout
      → old ≡ get_or c.calls index old
      → IsBeginning c number index old (due_step anew (pred number)) (λ now. due_cause anew now object number) None kind position layout
  beginning {here = here} {layout = layout} {old = old} position_read layout_is read =
      let placed : layout_at object position ≡ layout =
      layout_read c.positions position here (due_there wanted.found is_due) position_read ∙ sym layout_is in
      subst (λ (u : Tracked). IsBeginning c number index u (due_step anew (pred number))
      (λ now. due_cause anew now object number) None kind position layout)
      (same wanted.found read) (record {
        found = wanted.found;
        may = may_begin anew (pred number) object t.call (both anew wanted wants);
        makes = λ now. begun_is placed now;
        causes = λ now. due_cause_by anew wanted now true wants;
      })
