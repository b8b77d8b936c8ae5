-- Courses and paths say the same of phases that are complete.
use Rattle.std.proofs.Common.{◌≡◌, ◌≢◌, ℕ, suc, ◌≤◌, Bool, true, false, cond, List, []}
use Rattle.std.proofs.Common.{◌∷◌, Option, Some, None, IsSome, is_some, refl, sym, subst, ap, ◌∙◌, arith}
use Rattle.tag.proofs.TagOrderLemmas.{same_tag, tag_eq-same, tag_eq-true}
use Rattle.tag.specs.declared.tag.Tag.{Tag}
use Rattle.tag.specs.Tag.{later_tag, tag_lt, tag_eq}
use Rattle.bank.specs.declared.status.Status.{Status}
use Rattle.bank.specs.declared.status.Status.TheVariants.{Unset, Pending, Final}
use Rattle.bank.specs.declared.kind.Kind.{Kind}
use Rattle.bank.specs.declared.kind.Kind.TheVariants.{Next, Spread}
use Rattle.mail.specs.Phase.{Phase, lacks_pieces}
use Rattle.record.specs.declared.call.CallKind.{CallKind}
use Rattle.record.specs.declared.stage.Stage.{Stage}
use Rattle.record.specs.declared.stage.Stage.TheVariants.{AgainNext, AgainSpread}
use Rattle.record.specs.PhaseOrder.{due, after_again, passed, stage_after, IsCourse, greatest_status, greatest_tag, begun_at, stage_past}
use Rattle.record.specs.Grammar.{finalized_after, IsReading, greatest_shown, place_shown}
use Rattle.record.specs.Shape.{AreInTurn}
use Rattle.record.proofs.Phases.PhasePathLemmas.{IsPath, due_of}
use Rattle.record.proofs.Phases.QueryPathLemmas.{place_after, later_place}
use Rattle.record.proofs.TagOrderLemmas.{at_most_refl, at_most_of_below, not_below_at_most, tag_lt-true}

-- paths to an end

-- no phase is due at this stage
abbrev pub IsLast : Stage → Type 0
IsLast stage = due stage ≡ None

pub not_last : (stage : Stage) (next : Kind × ℕ) → due stage ≡ Some next → IsLast stage → ⊥
not_last stage next e last = let clash : Some next ≡ None = sym e ∙ last in cc

pub not_end : (stage end : Stage) (next : Kind × ℕ) → due stage ≡ Some next → IsLast end → stage ≡ end → ⊥
not_end stage end next e last same = not_last stage next e (subst IsLast (sym same) last)

pub path_of_course : (kind : CallKind) (number : ℕ) (phases : List Phase) (stage : Stage) → IsCourse kind number stage phases →
    IsLast (stage_after kind number stage phases) →
    AreInTurn phases × IsPath kind number stage phases (stage_after kind number stage phases)
path_of_course kind number [] stage course last = (tt, refl)
path_of_course kind number (phase ∷ []) stage course last = by_end phase.end refl
  where
    by_end : (o : Option ℕ) → phase.end ≡ o →
        IsSome phase.end × IsPath kind number stage (phase ∷ []) (stage_after kind number stage (phase ∷ []))
    by_end None h =
        absurd
        (not_last (begun_at stage phase.position) (phase.kind, phase.position) course.0
        (subst (λ o. IsLast (passed kind number (begun_at stage phase.position) o phase.replies (lacks_pieces phase))) h last))
    by_end (Some end) h = (
      ap is_some h,
      (course.0, ap (λ o. passed kind number (begun_at stage phase.position) o phase.replies (lacks_pieces phase)) (sym h)),
    )
path_of_course kind number (phase ∷ next ∷ later) stage course last =
    let ended = course.1.1 in
    let rest = path_of_course kind number (next ∷ later)
    (stage_past kind number stage phase) course.2 last in (
      (course.1, rest.0),
      (
        course.0,
        subst (λ o. IsPath kind number
            (passed kind number (begun_at stage phase.position) o phase.replies (lacks_pieces phase)) (next ∷ later)
            (stage_after kind number stage (phase ∷ next ∷ later))) ended rest.1,
      ),
    )

some_end : (o : Option ℕ) → IsSome o → (end : ℕ) × (o ≡ Some end)
some_end o some = grind arith

pub course_of_path : (kind : CallKind) (number : ℕ) (phases : List Phase) (stage end : Stage) → AreInTurn phases →
    IsPath kind number stage phases end → IsCourse kind number stage phases × (stage_after kind number stage phases ≡ end)
course_of_path kind number [] stage end turn path = (tt, path)
course_of_path kind number (phase ∷ []) stage end turn path =
    let ended = some_end phase.end turn in
    ((path.0, tt, tt), ap (λ o. passed kind number (begun_at stage phase.position) o phase.replies (lacks_pieces phase)) ended.1 ∙ path.1)
course_of_path kind number (phase ∷ next ∷ later) stage end turn path =
    let ended = turn.0.1 in
    let rest = course_of_path kind number (next ∷ later) (stage_past kind number stage phase) end turn.1
    (subst (λ o. IsPath kind number
    (passed kind number (begun_at stage phase.position) o phase.replies (lacks_pieces phase)) (next ∷ later) end)
    (sym ended) path.1) in
    ((path.0, turn.0, rest.0), rest.1)

-- readings

again_on : (status : Status) (last position : ℕ) (tag : Tag) → status ≢ Unset →
    after_again status last position tag ≡ AgainSpread last position tag status
again_on status last position tag some = grind arith

pub again_path : (kind : CallKind) (number : ℕ) (phases : List Phase) (from position finalized last to : ℕ) (tag : Tag) →
    IsReading position finalized phases last to →
    IsPath kind number (AgainNext from position tag) phases (after_again Unset from last tag)
again_path kind number [] from position finalized last to tag reading = absurd reading
again_path kind number (next ∷ []) from position finalized last to tag reading = (
  due_of Next position next reading.0,
  ap (λ s. after_again s from position tag) reading.1 ∙ ap (λ p. after_again Unset from p tag) (sym reading.2),
)
again_path kind number (next ∷ spread ∷ later) from position finalized last to tag reading =
    let status = greatest_status next.replies in
    let rest = again_path kind number later from (suc position) (finalized_after status position finalized) last to tag reading.3 in (
      due_of Next position next reading.0,
      subst (λ s. IsPath kind number s (spread ∷ later) (after_again Unset from last tag))
          (sym (again_on status from position tag reading.1))
          (due_of (Spread status) position spread reading.2, rest),
    )

pub reading-bound : (phases : List Phase) (position finalized last to : ℕ) → finalized ≤ position →
    IsReading position finalized phases last to → to ≤ last
reading-bound [] position finalized last to h reading = absurd reading
reading-bound (next ∷ []) position finalized last to h reading = let a = reading.2 in let b = reading.3 in omega arith
reading-bound (next ∷ spread ∷ later) position finalized last to h reading =
    reading-bound later (suc position) (finalized_after (greatest_status next.replies) position finalized) last to
    (below (greatest_status next.replies)) reading.3
  where
    below : (status : Status) → finalized_after status position finalized ≤ suc position
    below Unset = omega arith
    below Pending = omega arith
    below Final = omega arith

-- queries

pub place_after-place_shown : (queries : List Phase) (greatest : Tag) (shown_at position place : ℕ) →
    (greatest ≡ greatest_shown greatest queries → place ≡ shown_at) →
    place_after greatest shown_at position queries ≡ place_shown (greatest_shown greatest queries) position place queries
place_after-place_shown [] greatest shown_at position place same = sym (same refl)
place_after-place_shown (query ∷ later) greatest shown_at position place same =
    place_after-place_shown later (later_tag greatest found) (later_place found greatest shown_at position) (suc position)
    (cond (tag_eq found top) position place)
    (λ e. placed (tag_lt found greatest) (tag_lt greatest found) (tag_eq found top) refl refl refl e)
  where
    found : Tag
    found = greatest_tag query.replies

    top : Tag
    top = greatest_shown (later_tag greatest found) later

    unequal : found ≡ top → tag_eq found top ≡ false → ⊥
    unequal e eq = let clash : true ≡ false = sym (tag_eq-same found) ∙ (ap (λ t. tag_eq found t) e ∙ eq) in cc

    placed : (low high here : Bool) → tag_lt found greatest ≡ low → tag_lt greatest found ≡ high → tag_eq found top ≡ here →
        cond high found greatest ≡ top → cond here position place ≡ cond low shown_at position
    placed true true here low high eq e =
        absurd (not_below_at_most found greatest (tag_lt-true found greatest low)
        (at_most_of_below greatest found (tag_lt-true greatest found high)))
    placed true false true low high eq e =
        let one : found ≡ greatest = tag_eq-true found top eq ∙ sym e in
        absurd (not_below_at_most greatest greatest (tag_lt-true greatest greatest (subst (λ t. tag_lt t greatest ≡ true) one low))
        (at_most_refl greatest))
    placed true false false low high eq e = same e
    placed false high true low up eq e = refl
    placed false true false low high eq e = absurd (unequal e eq)
    placed false false false low high eq e = absurd (unequal (same_tag found greatest low high ∙ e) eq)
