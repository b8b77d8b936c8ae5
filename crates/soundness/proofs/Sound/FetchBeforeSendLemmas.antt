-- A call that sends pieces has fetched or written its value.
use Rattle.std.proofs.lemmas.Grind.{common_steps}
use Rattle.std.proofs.Common.{◌≡◌, ℕ, zero, suc, ◌⊎◌, Bool, true, false, List, [], arith}
use Rattle.std.proofs.Common.{◌∷◌, Option, Some, refl, sym, ap, ◌∙◌, inl, inr, slice_get}
use Rattle.std.proofs.lemmas.Option.{same_Some}
use Rattle.tag.specs.declared.tag.Tag.{Tag}
use Rattle.bank.specs.declared.status.Status.{Status}
use Rattle.bank.specs.declared.kind.Kind.{Kind}
use Rattle.bank.specs.declared.kind.Kind.TheVariants.{PreWrite, Fetch}
use Rattle.mail.specs.declared.phase.Taken.{Taken}
use Rattle.mail.specs.Phase.{Phase, lacks_pieces}
use Rattle.record.specs.declared.call.CallKind.{CallKind}
use Rattle.record.specs.declared.call.CallKind.TheVariants.{Read, Write, Move}
use Rattle.record.specs.PhaseOrder.{begun_at, greatest_status, greatest_tag, due, after, passed, stage_past, stage_after}
use Rattle.record.specs.PhaseOrder.{IsCourse, after_next, after_spread, after_query}
use Rattle.record.specs.declared.stage.Stage.{Stage}
use Rattle.record.specs.declared.stage.Stage.TheVariants.{ReadBegin, ReadNext, ReadSpread, QueryFrom, FetchAt, MoveSpread, MoveQuery}
use Rattle.record.specs.declared.stage.Stage.TheVariants.{MoveFetch}
use Rattle.record.specs.Legal.{first_stage}
use Rattle.record.specs.Fragments.{IsFetch}
use Rattle.record.specs.Preconditions.{IsPreWrite}
use Rattle.record.proofs.BegunStageLemmas.{begun_has}
use Rattle.soundness.proofs.Sound.DueKindLemmas.{sends}

-- Before the fetch

-- a call that has not fetched
abbrev IsUnfetched : Stage → Type 0
IsUnfetched ReadBegin = Unit {0}
IsUnfetched (ReadNext p m) = Unit {0}
IsUnfetched (ReadSpread p m s) = Unit {0}
IsUnfetched (QueryFrom p l t q) = Unit {0}
IsUnfetched (FetchAt q l t) = Unit {0}
IsUnfetched (MoveSpread p) = Unit {0}
IsUnfetched (MoveQuery p) = Unit {0}
IsUnfetched (MoveFetch p t) = Unit {0}
IsUnfetched _ = ⊥

-- a read or a move: its value comes by a fetch
abbrev pub Fetches : CallKind → Type 0
Fetches Read = Unit {0}
Fetches (Write value) = ⊥
Fetches Move = Unit {0}

-- the phase that is due is a fetch
abbrev IsFetchDue : Stage → Type 0
IsFetchDue stage = (tag : Tag) × (position : ℕ) × (due stage ≡ Some (Fetch tag, position))

-- the phase that is due sends pieces
abbrev IsSendingDue : Stage → Type 0
IsSendingDue stage = (tag : Tag) × (position : ℕ) × (due stage ≡ Some (PreWrite tag, position))

unfetched_next : (p m : ℕ) (status : Status) → IsUnfetched (after_next status p m)
unfetched_next p m status = grind arith

unfetched_spread : (p m : ℕ) (status : Status) → IsUnfetched (after_spread status p m)
unfetched_spread p m status = grind arith

unfetched_query : (kind : CallKind) → Fetches kind → (number : ℕ) (found : Tag) (p l : ℕ) (greatest : Tag) (q : ℕ) →
    IsUnfetched (after_query kind number found p l greatest q)
unfetched_query kind fetches number found p l greatest q = grind arith

unfetched_after : (kind : CallKind) → Fetches kind → (number : ℕ) (stage : Stage) (replies : List Taken) (lacks : Bool) →
    IsUnfetched stage →
    (IsFetchDue stage × (lacks ≡ false)) ⊎ IsUnfetched (after kind number stage replies lacks)
unfetched_after kind fetches number ReadBegin replies lacks none = inr tt
unfetched_after kind fetches number (ReadNext p m) replies lacks none = inr (unfetched_next p m (greatest_status replies))
unfetched_after kind fetches number (ReadSpread p m s) replies lacks none = inr (unfetched_spread p m s)
unfetched_after kind fetches number (QueryFrom p l t q) replies lacks none =
    inr (unfetched_query kind fetches number (greatest_tag replies) p l t q)
unfetched_after kind fetches number (FetchAt q l t) replies true none = inr tt
unfetched_after kind fetches number (FetchAt q l t) replies false none = inl ((t, q, refl), refl)
unfetched_after kind fetches number (MoveSpread p) replies lacks none = inr tt
unfetched_after kind fetches number (MoveQuery p) replies lacks none = inr tt
unfetched_after kind fetches number (MoveFetch p t) replies true none = inr tt
unfetched_after kind fetches number (MoveFetch p t) replies false none = inl ((t, p, refl), refl)
unfetched_after kind fetches number stage replies lacks none = absurd none

unfetched_passed : (kind : CallKind) → Fetches kind → (number : ℕ) (stage : Stage) (end : Option ℕ) (replies : List Taken) (lacks : Bool) →
    IsUnfetched stage → (IsFetchDue stage × (lacks ≡ false)) ⊎ IsUnfetched (passed kind number stage end replies lacks)
unfetched_passed kind fetches number stage end replies lacks none = grind (arith, unfetched_after)

-- and it has not where its phase begins
unfetched_begun : (stage : Stage) (position : ℕ) → IsUnfetched stage → IsUnfetched (begun_at stage position)
unfetched_begun stage position none = begun_has (λ s. IsUnfetched s) stage position (λ first. tt) none

unfetched_sends : (stage : Stage) → IsUnfetched stage → sends (due stage) ≡ false
unfetched_sends stage none = grind arith

unfetched_due : (stage : Stage) → IsUnfetched stage → IsSendingDue stage → ⊥
unfetched_due stage none (tag, position, e) = let no : false ≡ true = sym (unfetched_sends stage none) ∙ ap sends e in cc

-- A fetch among the phases

pub record Fetched (phases : List Phase) : Type 0 where
  pub place : ℕ
  pub phase : Phase
  pub within : slice_get phases place ≡ Some phase
  pub fetch : IsFetch phase.kind
  pub enough : lacks_pieces phase ≡ false

fetched_here : (phase : Phase) (phases : List Phase) (stage : Stage) → due stage ≡ Some (phase.kind, phase.position) →
    IsFetchDue stage → lacks_pieces phase ≡ false → Fetched (phase ∷ phases)
fetched_here phase phases stage is known enough = grind (arith, common_steps, same_Some)

fetched_from : {Still : Type 0} (phase : Phase) (phases : List Phase) (stage : Stage) →
    due stage ≡ Some (phase.kind, phase.position) → (IsFetchDue stage × (lacks_pieces phase ≡ false)) ⊎ Still →
    (Still → Fetched phases) →
    Fetched (phase ∷ phases)
fetched_from phase phases stage is (inl fetch) later = fetched_here phase phases stage is fetch.0 fetch.1
fetched_from phase phases stage is (inr still) later =
    let found = later still in record {
      place = suc found.place;
      phase = found.phase;
      within = found.within;
      fetch = found.fetch;
      enough = found.enough;
    }

-- a read or a move that is to send pieces has fetched
pub fetched_before_due : (kind : CallKind) → Fetches kind → (number : ℕ) (phases : List Phase) (stage : Stage) →
    IsCourse kind number stage phases → IsUnfetched stage → (base : ℕ) →
    IsSendingDue (begun_at (stage_after kind number stage phases) base) → Fetched phases
fetched_before_due kind fetches number [] stage course none base sending =
    absurd (unfetched_due (begun_at stage base) (unfetched_begun stage base none) sending)
fetched_before_due kind fetches number (phase ∷ phases) stage course none base sending =
    fetched_from phase phases (begun_at stage phase.position) course.0
    (unfetched_passed kind fetches number (begun_at stage phase.position) phase.end phase.replies (lacks_pieces phase)
    (unfetched_begun stage phase.position none))
    (λ still. fetched_before_due kind fetches number phases
    (stage_past kind number stage phase) course.2 still base sending)

-- and so has one that sends them
pub fetched_before_sent : (kind : CallKind) → Fetches kind → (number : ℕ) (phases : List Phase) (stage : Stage) →
    IsCourse kind number stage phases → IsUnfetched stage → (place : ℕ) (sent : Phase) → slice_get phases place ≡ Some sent →
    IsPreWrite sent.kind → Fetched phases
fetched_before_sent kind fetches number [] stage course none place sent at pre = absurd (cc)
fetched_before_sent kind fetches number (phase ∷ phases) stage course none zero sent at pre =
    let same : phase ≡ sent = same_Some phase sent at in
    let asked : phase.kind ≡ PreWrite pre.0 = ap (λ (p : Phase). p.kind) same ∙ pre.1 in
    absurd (unfetched_due (begun_at stage phase.position) (unfetched_begun stage phase.position none)
    (pre.0, phase.position, course.0 ∙ ap (λ (k : Kind). Some (k, phase.position)) asked))
fetched_before_sent kind fetches number (phase ∷ phases) stage course none (suc place) sent at pre =
    fetched_from phase phases (begun_at stage phase.position) course.0
    (unfetched_passed kind fetches number (begun_at stage phase.position) phase.end phase.replies (lacks_pieces phase)
    (unfetched_begun stage phase.position none))
    (λ still. fetched_before_sent kind fetches number phases
    (stage_past kind number stage phase) course.2 still place sent at pre)

pub unfetched_first : (kind : CallKind) (moves : ℕ) → IsUnfetched (first_stage kind moves)
unfetched_first kind moves = grind arith
