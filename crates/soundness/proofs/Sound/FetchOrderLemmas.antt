-- A read fetches before it is answered, and no call fetches again once it has its pieces.
use Rattle.std.proofs.Common.{◌≡◌, ℕ, zero, suc, ◌⊎◌, Bool, false, List, [], arith}
use Rattle.std.proofs.Common.{◌∷◌, Option, Some, None, refl, sym, subst, inl, inr, slice_get}
use Rattle.std.proofs.lemmas.Option.{same_Some}
use Rattle.tag.specs.declared.tag.Tag.{Tag}
use Rattle.bank.specs.declared.kind.Kind.{Kind}
use Rattle.mail.specs.declared.phase.Taken.{Taken}
use Rattle.mail.specs.Phase.{Phase, lacks_pieces}
use Rattle.record.specs.declared.call.CallKind.{CallKind}
use Rattle.bank.specs.declared.kind.Kind.TheVariants.{Fetch}
use Rattle.record.specs.declared.call.CallKind.TheVariants.{Read}
use Rattle.record.specs.PhaseOrder.{begun_at, due, after, passed, stage_past, stage_after, IsCourse}
use Rattle.record.specs.PhaseOrder.{EndsBefore}
use Rattle.record.specs.declared.stage.Stage.{Stage}
use Rattle.record.specs.declared.stage.Stage.TheVariants.{ReadBegin, ReadNext, ReadSpread, QueryFrom, FetchAt}
use Rattle.record.specs.Fragments.{IsFetch}
use Rattle.record.proofs.BegunStageLemmas.{begun_has}
use Rattle.record.proofs.Phases.PastFetchLemmas.{IsLate, IsLateWith, late_stays}

-- a read that has not fetched
abbrev pub IsEarly : Stage → Type 0
IsEarly ReadBegin = Unit {0}
IsEarly (ReadNext p m) = Unit {0}
IsEarly (ReadSpread p m s) = Unit {0}
IsEarly (QueryFrom p l t q) = Unit {0}
IsEarly (FetchAt q l t) = Unit {0}
IsEarly _ = ⊥

abbrev pub FetchDue : Option (Kind × ℕ) → Type 0
FetchDue None = ⊥
FetchDue (Some next) = IsFetch next.0

early_passed : (number : ℕ) (stage : Stage) (end : Option ℕ) (replies : List Taken) (lacks : Bool) → IsEarly stage →
    (FetchDue (due stage) × (lacks ≡ false)) ⊎ IsEarly (passed Read number stage end replies lacks)
early_passed number stage end replies lacks early = grind arith

pub early_due : (stage : Stage) → IsEarly stage → due stage ≡ None → ⊥
early_due stage early e = grind arith

-- a read that is through has fetched what it needs
pub has_fetch : (number : ℕ) (phases : List Phase) (stage : Stage) → IsCourse Read number stage phases → IsEarly stage →
    (IsEarly (stage_after Read number stage phases) → ⊥) →
    (place : ℕ) × (phase : Phase) × (slice_get phases place ≡ Some phase) × IsFetch phase.kind × (lacks_pieces phase ≡ false)
has_fetch number [] stage course early none = absurd (none early)
has_fetch number (phase ∷ phases) stage course early none =
    go (early_passed number (begun_at stage phase.position) phase.end phase.replies (lacks_pieces phase)
    (begun_has (λ s. IsEarly s) stage phase.position (λ first. tt) early))
    (λ e. has_fetch number phases (stage_past Read number stage phase) course.2 e none)
  where
    go : (FetchDue (due (begun_at stage phase.position)) × (lacks_pieces phase ≡ false))
        ⊎ IsEarly (stage_past Read number stage phase) →
        (IsEarly (stage_past Read number stage phase) → (place : ℕ) × (p : Phase)
        × (slice_get phases place ≡ Some p) × IsFetch p.kind × (lacks_pieces p ≡ false)) →
        (place : ℕ) × (p : Phase) × (slice_get (phase ∷ phases) place ≡ Some p) × IsFetch p.kind × (lacks_pieces p ≡ false)
    go (inl fetch) rest = (0, phase, refl, subst FetchDue course.0 fetch.0, fetch.1)
    go (inr e) rest = let found = rest e in (suc found.0, found.1, found.2, found.3, found.4)

-- once a fetch has its pieces
pub first_late : (kind : CallKind) (number : ℕ) (stage : Stage) (first phase : Phase) (tag : Tag) →
    due stage ≡ Some (first.kind, first.position) → first ≡ phase → phase.kind ≡ Fetch tag → lacks_pieces phase ≡ false →
    IsLateWith tag (after kind number stage first.replies (lacks_pieces first))
first_late kind number stage first phase tag is_due same fetch enough = grind arith

pub late_due : (stage : Stage) → IsLate stage → FetchDue (due stage) → ⊥
late_due stage late fetch = grind arith

-- a fetch that is complete and lacks no pieces makes the call late, with the tag that it fetched
pub course_late : (kind : CallKind) (number : ℕ) (phases : List Phase) (stage : Stage) → IsCourse kind number stage phases →
    (now : ℕ) → EndsBefore phases now → (place : ℕ) (phase : Phase) (tag : Tag) → slice_get phases place ≡ Some phase →
    phase.kind ≡ Fetch tag → lacks_pieces phase ≡ false → IsLateWith tag (stage_after kind number stage phases)
course_late kind number (first ∷ []) stage course now ends zero phase tag at fetch enough =
    subst (λ o. IsLateWith tag (passed kind number (begun_at stage first.position) o first.replies (lacks_pieces first))) (sym ends.1)
    (first_late kind number (begun_at stage first.position) first phase tag course.0 (same_Some first phase at) fetch enough)
course_late kind number (first ∷ next ∷ later) stage course now ends zero phase tag at fetch enough =
    late_stays kind number (next ∷ later) (stage_past kind number stage first) tag
    (subst (λ o. IsLateWith tag (passed kind number (begun_at stage first.position) o first.replies (lacks_pieces first))) (sym course.1.1)
    (first_late kind number (begun_at stage first.position) first phase tag course.0 (same_Some first phase at) fetch enough))
course_late kind number (first ∷ next ∷ later) stage course now ends (suc place) phase tag at fetch enough =
    course_late kind number (next ∷ later) (stage_past kind number stage first) course.2 now ends place
    phase tag at fetch enough
course_late kind number _ stage course now ends _ phase tag at fetch enough = absurd (cc)
