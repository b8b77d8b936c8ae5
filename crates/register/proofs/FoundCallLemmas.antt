-- A call of a register, found by its number.
use Rattle.std.proofs.Common.{◌≡◌, ℕ, suc, pred, ◌<◌, ◌≤◌, List, [], length, get_or, slice_get, Option, Some}
use Rattle.std.proofs.Common.{None, option_map, IfSome, sym, ap, subst, ◌∙◌, refl}
use Rattle.std.proofs.lemmas.Option.{slice_get_read, same_Some, slice_get_within}
use Rattle.mail.specs.Phase.{Phase}
use Rattle.record.specs.PhaseOrder.{begun_at, due}
use Rattle.record.specs.Legal.{due_of, stage_of}
use Rattle.record.specs.Wants.{current_phase, want_of}
use Rattle.record.specs.declared.stage.Want.{Want}
use Rattle.record.specs.declared.stage.Want.TheVariants as want
use Rattle.tag.specs.declared.limits.TheConstants.{MOST_POSITIONS}
use Rattle.tag.specs.declared.refusal.Refusal.{Refusal}
use Rattle.tag.specs.declared.refusal.Refusal.TheVariants.{NotNow}
use Rattle.record.specs.Journals.{entry_of}
use Rattle.record.specs.Records.{Call}
use Rattle.register.specs.Causes.{call_at, if_call, if_settle}
use Rattle.register.specs.Position.{Position}
use Rattle.register.specs.Kept.{IsKept}
use Rattle.register.specs.State.{Contents, State, object_of, state_of}
use Rattle.register.specs.Tracked.{Tracked, HasPositionsBelow, tracked_want}
use Rattle.register.specs.View.{want_at}
use Rattle.register.proofs.FirstReadingLemmas.{begun_want}
use Rattle.register.proofs.ListLemmas.{length_map}
use Rattle.register.proofs.StepInvariantLemmas.{call_found, due_now, due_placed, is_below, few_positions}

-- the call of this number stands at this place of what is kept
pub record IsFound (c : Contents) (number index : ℕ) (t : Tracked) : Type 0 where
  pub kept : IsKept c
  pub named : suc index ≡ number
  pub there : slice_get c.calls index ≡ Some t

module _ {c : Contents} {number index : ℕ} {t : Tracked} (found : IsFound c number index t) where
  pub at : slice_get (state_of c).object.calls index ≡ Some t.call
  at = call_found c.calls index t found.there

  pub at_number : call_at (state_of c).object number ≡ Some t.call
  at_number = ap (call_at (state_of c).object) (sym found.named) ∙ at

  pub place : index ≡ pred number
  place = ap pred found.named

  pub at_place : slice_get (state_of c).object.calls (pred number) ≡ Some t.call
  at_place = ap (slice_get (state_of c).object.calls) (sym place) ∙ at

  pub staged : t.stage ≡ stage_of (state_of c).object (pred number) t.call
  staged = found.kept.staged index t found.there ∙ ap (λ i. stage_of (state_of c).object i t.call) place

  -- the phase that is due, by the stage and the base that are kept
  pub due_kept : due (begun_at t.stage c.base) ≡ due_of (state_of c).object (pred number) t.call
  due_kept = due_now c found.kept index t found.there ∙ ap (λ i. due_of (state_of c).object i t.call) place

  pub wants : tracked_want (object_of None c.positions [] []) t ≡ want_of (state_of c).object (pred number) t.call
  wants = cc (begun_want (state_of c).object t.stage c.base t.call.settled (current_phase t.call.phases), due_kept)

  -- it is at a position that is there
  pub below_due : IfSome (due_of (state_of c).object (pred number) t.call) (λ asked. asked.1 < length c.positions)
  below_due = subst (λ i. IfSome (due_of (state_of c).object i t.call) (λ asked. asked.1 < length c.positions)) place
      (due_placed c found.kept index t found.there)

  pub below : HasPositionsBelow (length c.positions) t
  below = is_below c found.kept index t found.there

  -- whatever is read again at its place is the call
  pub same : {old : Tracked} → old ≡ get_or c.calls index old → t ≡ old
  same {old = old} read =
      same_Some t old (sym found.there
      ∙ slice_get_read c.calls (length c.calls) index old refl (slice_get_within c.calls index t found.there) read)

  pub again : {old : Tracked} → old ≡ get_or c.calls index old → IsFound c number index old
  again read = subst (λ (u : Tracked). IsFound c number index u) (same read) found

  -- its entry, which has its number
  pub entry_is : option_map (entry_of number) (call_at (state_of c).object number) ≡ Some (entry_of t.call.id t.call)
  entry_is = cc (at_number, found.kept.numbered index t.call at, found.named)

  pub caused : (cause : Call → Option Refusal) → if_call (call_at (state_of c).object number) cause ≡ cause t.call
  caused cause = ap (λ o. if_call o cause) at_number

  -- what is said to be wanted by the kept stage is what the record says
  pub wanted : {positions : List Position} {w : Want} → w ≡ tracked_want (object_of None positions [] []) t → positions ≡ c.positions
      → want_of (state_of c).object (pred number) t.call ≡ w
  wanted is same = sym (is ∙ ap (λ ps. tracked_want (object_of None ps [] []) t) same ∙ wants)

  pub current_again : {old : Tracked} {current : Option Phase} → old ≡ get_or c.calls index old → current ≡ current_phase old.call.phases
      → current_phase t.call.phases ≡ current
  current_again read is = ap (λ (u : Tracked). current_phase u.call.phases) (same read) ∙ sym is

  pub below_those : {positions : List Position} → positions ≡ c.positions → HasPositionsBelow (length positions) t
  below_those same = subst (λ n. HasPositionsBelow n t) (sym (ap length same)) below

-- the call was read, and it wants this
pub record IsWanting (c : Contents) (number index : ℕ) (t : Tracked) (w : Want) : Type 0 where
  pub found : IsFound c number index t
  pub wants : want_of (state_of c).object (pred number) t.call ≡ w

pub wanting : {c : Contents} {number index : ℕ} {t : Tracked} {positions : List Position} {v w : Want} → IsFound c number index t
    → v ≡ tracked_want (object_of None positions [] []) t → positions ≡ c.positions → v ≡ w → IsWanting c number index t w
wanting found is same matched = record { found = found; wants = wanted found is same ∙ matched }

-- a call that was read wants what `want_of` computes for it
pub wants_now : {c : Contents} {number index : ℕ} {t : Tracked} (f : IsFound c number index t)
    → IsWanting c number index t (want_of (state_of c).object (pred number) t.call)
wants_now f = record { found = f; wants = refl }

pub want_at_is : {c : Contents} {number index : ℕ} {t : Tracked} {w : Want} → IsWanting c number index t w
    → want_at (state_of c).object number ≡ Some w
want_at_is {c = c} {number = number} w =
    ap (option_map (λ call. want_of (state_of c).object (pred number) call)) (at_number w.found) ∙ ap Some w.wants

-- a call that is read from the calls is found
pub is_found : {c : Contents} {number index : ℕ} {t : Tracked} {calls : List Tracked} → IsKept c
    → (suc index ≡ number) × (index < length calls)
    → calls ≡ c.calls → t ≡ get_or c.calls index t → IsFound c number index t
is_found {c = c} {index = index} {t = t} kept place calls_are read = record {
  kept = kept;
  named = place.0;
  there = slice_get_read c.calls (length c.calls) index t refl (subst (λ (xs : List Tracked). index < length xs) calls_are place.1) read;
}

-- a place among the calls that a caller sees is one among those that are kept
pub within_calls : {c : Contents} {s : State} {index : ℕ} → IsKept c → state_of c ≡ s → index < length s.object.calls
    → index < length c.calls
within_calls {c = c} {index = index} kept view within =
    subst (λ n. index < n) (length_map (λ (u : Tracked). u.call) c.calls)
    (subst (λ (r : State). index < length r.object.calls) (sym view) within)

-- and the other way round
pub seen_at : {c : Contents} {s : State} {number index : ℕ} {calls : List Tracked} → IsKept c → state_of c ≡ s → calls ≡ c.calls
    → (suc index ≡ number) × (index < length calls) → (suc index ≡ number) × (index < length s.object.calls)
seen_at {c = c} {index = index} kept view calls_are named = (
  named.0,
  subst (λ (r : State). index < length r.object.calls) view
      (subst (λ n. index < n) (sym (length_map (λ (u : Tracked). u.call) c.calls))
      (subst (λ (xs : List Tracked). index < length xs) calls_are named.1)),
)

-- a call that is read at the place of its number is found
pub found_at : {c : Contents} {s : State} {number index : ℕ} {t : Tracked} → IsKept c → state_of c ≡ s
    → (suc index ≡ number) × (index < length s.object.calls) → t ≡ get_or c.calls index t → IsFound c number index t
found_at {c = c} {index = index} {t = t} kept view named read = record {
  kept = kept;
  named = named.0;
  there = slice_get_read c.calls (length c.calls) index t refl (within_calls kept view named.1) read;
}

-- there are not too many positions
pub few_those : {c : Contents} {positions : List Position} → IsKept c → positions ≡ c.positions → length positions ≤ MOST_POSITIONS
few_those {c = c} kept same = subst (λ (ps : List Position). length ps ≤ MOST_POSITIONS) (sym same) (few_positions c kept)

-- a call that wants neither to settle nor to begin anew
pub not_settle : (w : Want) (later : Option Refusal) → ((k len : ℕ) → w ≡ want.Settle k len → ⊥) → (w ≡ want.Again → ⊥)
    → if_settle w later ≡ Some NotNow
not_settle want.Again later no_settle no_again = absurd (no_again refl)
not_settle (want.Settle k len) later no_settle no_again = absurd (no_settle k len refl)
not_settle _ later no_settle no_again = refl

-- a step later than the last one that a caller sees is later than the last one that is kept
pub later : (c : Contents) {s : State} {now : ℕ} → state_of c ≡ s → s.last < now → c.last < now
later c {now = now} view after = subst (λ (s : State). s.last < now) (sym view) after
