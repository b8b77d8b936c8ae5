-- A course grows at its end, and its last phase is put in another's place.
use Rattle.std.proofs.Common.{◌≡◌, ℕ, zero, suc, ◌+◌, ◌<◌, ◌⊎◌, List, [], ◌∷◌, ◌++◌, length, set}
use Rattle.std.proofs.Common.{Some, refl, sym, subst, subst₂, ap, ◌∙◌, inl, inr, arith, slice_get}
use Rattle.std.proofs.lemmas.Bool.{cases_eq}
use Rattle.std.proofs.lemmas.Option.{same_Some}
use Rattle.mail.specs.Phase.{Phase}
use Rattle.record.specs.declared.call.CallKind.{CallKind}
use Rattle.record.specs.declared.stage.Stage.{Stage}
use Rattle.record.specs.PhaseOrder.{due, stage_after, IsCourse, EndsBefore, begun_at, stage_past}
use Rattle.record.specs.Legal.{AreNumbered, BeginsAt}
use Rattle.soundness.proofs.ListLemmas.{set_here, set_there}

-- a course grows at its end

pub course_push : (kind : CallKind) (number : ℕ) (phases : List Phase) (stage : Stage) (next : Phase) →
    IsCourse kind number stage phases → EndsBefore phases next.start →
    due (begun_at (stage_after kind number stage phases) next.position) ≡ Some (next.kind, next.position) →
    IsCourse kind number stage (phases ++ next ∷ [])
course_push kind number [] stage next course ends is_due = absurd ends
course_push kind number (phase ∷ []) stage next course ends is_due = (course.0, ends, (is_due, tt, tt))
course_push kind number (phase ∷ other ∷ phases) stage next course ends is_due = (
  course.0,
  course.1,
  course_push kind number (other ∷ phases)
      (stage_past kind number stage phase) next course.2 ends is_due,
)

pub numbered_push : (call number : ℕ) (phases : List Phase) (next : Phase) → AreNumbered call number phases → next.call ≡ call →
    next.number ≡ number + length phases →
    AreNumbered call number (phases ++ next ∷ [])
numbered_push call number [] next numbered c n = (c, (let m = n in omega arith), tt)
numbered_push call number (phase ∷ phases) next numbered c n =
    (numbered.0, numbered.1, numbered_push call (suc number) phases next numbered.2 c (let m = n in omega arith))

pub begins_push : (phases : List Phase) (next : Phase) (step : ℕ) → BeginsAt phases step → BeginsAt (phases ++ next ∷ []) step
begins_push phases next step begins = grind arith

-- the last phase is changed

pub course_set : (kind : CallKind) (number : ℕ) (phases : List Phase) (stage : Stage) (place : ℕ) (old new : Phase) →
    IsCourse kind number stage phases → slice_get phases place ≡ Some old → suc place ≡ length phases → new.kind ≡ old.kind →
    new.position ≡ old.position → new.start ≡ old.start → IsCourse kind number stage (set phases place new)
course_set kind number (phase ∷ []) stage zero old new course at last k p s =
    let same = same_Some phase old at in
    let kinds : phase.kind ≡ new.kind = ap (λ (q : Phase). q.kind) same ∙ sym k in
    let positions : phase.position ≡ new.position = ap (λ (q : Phase). q.position) same ∙ sym p in
    (subst₂ (λ a b. due (begun_at stage b) ≡ Some (a, b)) kinds positions course.0, tt, tt)
course_set kind number (phase ∷ next ∷ phases) stage zero old new course at last k p s = absurd (omega arith)
course_set kind number (phase ∷ next ∷ phases) stage (suc zero) old new course at last k p s =
    let same = same_Some next old at in
    let starts : next.start ≡ new.start = ap (λ (q : Phase). q.start) same ∙ sym s in (
      course.0,
      (course.1.0, course.1.1, subst (λ n. course.1.0 < n) starts course.1.2),
      course_set kind number (next ∷ phases)
          (stage_past kind number stage phase) zero old new course.2 at
          (omega arith) k p s,
    )
course_set kind number (phase ∷ next ∷ phases) stage (suc (suc place)) old new course at last k p s = (
  course.0,
  course.1,
  course_set kind number (next ∷ phases) (stage_past kind number stage phase)
      (suc place) old new course.2 at
      (omega arith) k p s,
)
course_set kind number _ stage _ old new course at last k p s = absurd (cc)

pub numbered_set : (call number : ℕ) (phases : List Phase) (place : ℕ) (old new : Phase) → AreNumbered call number phases →
    slice_get phases place ≡ Some old → new.call ≡ old.call → new.number ≡ old.number →
    AreNumbered call number (set phases place new)
numbered_set call number [] place old new numbered at c n = absurd (cc)
numbered_set call number (phase ∷ phases) zero old new numbered at c n =
    let same = same_Some phase old at in
    (c ∙ sym (ap (λ (q : Phase). q.call) same) ∙ numbered.0, n ∙ sym (ap (λ (q : Phase). q.number) same) ∙ numbered.1, numbered.2)
numbered_set call number (phase ∷ phases) (suc place) old new numbered at c n =
    (numbered.0, numbered.1, numbered_set call (suc number) phases place old new numbered.2 at c n)

pub begins_set : (phases : List Phase) (place step : ℕ) (old new : Phase) → BeginsAt phases step →
    slice_get phases place ≡ Some old → new.start ≡ old.start → BeginsAt (set phases place new) step
begins_set phases place step old new begins at s = grind arith

pub last_ended : (phases : List Phase) (step place : ℕ) (phase : Phase) → EndsBefore phases step →
    slice_get phases place ≡ Some phase → suc place ≡ length phases → (end : ℕ) × (phase.end ≡ Some end)
last_ended [] step place phase ends at last = absurd ends
last_ended (first ∷ []) step zero phase ends at last = (ends.0, sym (ap (λ (q : Phase). q.end) (same_Some first phase at)) ∙ ends.1)
last_ended (first ∷ []) step (suc place) phase ends at last = absurd (cc)
last_ended (first ∷ next ∷ phases) step zero phase ends at last = absurd (omega arith)
last_ended (first ∷ next ∷ phases) step (suc place) phase ends at last =
    last_ended (next ∷ phases) step place phase ends at (omega arith)

pub phases_set : (phases : List Phase) (place j : ℕ) (old grown other : Phase) → grown.kind ≡ old.kind →
    grown.position ≡ old.position → grown.start ≡ old.start → slice_get phases place ≡ Some old →
    slice_get phases j ≡ Some other → (now : Phase) × (slice_get (set phases place grown) j ≡ Some now) × (now.kind ≡ other.kind)
    × (now.position ≡ other.position) × (now.start ≡ other.start)
phases_set phases place j old grown other k p s at there = go (cases_eq j place)
  where
    go : (j ≡ place) ⊎ (j ≡ place → ⊥) → (now : Phase) × (slice_get (set phases place grown) j ≡ Some now)
        × (now.kind ≡ other.kind) × (now.position ≡ other.position) × (now.start ≡ other.start)
    go (inl here) =
        let same : old ≡ other = same_Some old other (sym at ∙ ap (λ i. slice_get phases i) (sym here) ∙ there) in (
          grown,
          subst (λ i. slice_get (set phases place grown) i ≡ Some grown) (sym here) (set_here phases place old grown at),
          k ∙ ap (λ (q : Phase). q.kind) same,
          p ∙ ap (λ (q : Phase). q.position) same,
          s ∙ ap (λ (q : Phase). q.start) same,
        )
    go (inr apart) = (other, set_there phases place j grown other apart there, refl, refl, refl)
