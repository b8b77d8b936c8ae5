-- Facts of a list of calls by recursion, and the same by place.
use Rattle.std.proofs.Common.{nat_eq, ◌≡◌, ◌≢◌, ℕ, zero, suc, ◌<◌, ◌≤◌, false, List}
use Rattle.std.proofs.Common.{[], ◌∷◌, length, get_or, IsSome, refl, eq-eqb, ap, ◌∙◌, sym, inl, inr, arith}
use Rattle.std.specs.List.{AllByRecursion, IsDistinct}
use Rattle.std.proofs.lemmas.Bool.{cases_lt, ne_eqb}
use Rattle.std.proofs.lemmas.List.{get_or_past, get_or_default}
use Rattle.std.proofs.lemmas.Map.Keys.{apart_from_distinct, IsDistinct-from_apart}
use Rattle.std.proofs.lemmas.Option.{slice_get-get_or}
use Rattle.record.specs.declared.call.Entry.{Entry}
use Rattle.atomicity.specs.Atomic.{no_entry, entry_at, IsAnsweredBefore, KeepsOrder, MayStand}
use Rattle.history.specs.Check.{AreLawfulEntries, MayAllStand, entries_listed}

-- the entry of the call at a place of the list
abbrev pub at : List Entry → List ℕ → (place : ℕ) → Entry
at entries order place = entry_at entries (get_or order place 0)

pub place_from_all : (P : ℕ → Type 0) (order : List ℕ) → AllByRecursion P order → (place : ℕ) → place < length order →
    P (get_or order place 0)
place_from_all P [] all place h = absurd (omega arith)
place_from_all P (x ∷ xs) all zero h = all.0
place_from_all P (x ∷ xs) all (suc place) h = place_from_all P xs all.1 place (omega arith)

-- what may stand is the entry of a call
pub is_call : (entries : List Entry) (call : ℕ) → MayStand (entry_at entries call) → (0 < call) × (call ≤ length entries)
is_call entries zero may = absurd (may.0 refl)
is_call entries (suc index) may = elim (cases_lt index (length entries)) [
  | inl within ↦ (omega arith, omega arith)
  | inr past ↦ absurd (may.0 (ap (λ (e : Entry). e.kind) (get_or_past entries index no_entry past)))
]

-- a list of calls that may stand names entries
pub call_there : (entries : List Entry) (order : List ℕ) → MayAllStand entries order →
    (place : ℕ) → place < length order → (0 < get_or order place 0) × (get_or order place 0 ≤ length entries)
call_there entries order standing place h =
    is_call entries (get_or order place 0) (place_from_all (λ call. MayStand (entry_at entries call)) order standing place h)

-- a fact of each entry that the list names
all_named : (entries : List Entry) (order : List ℕ) (P : Entry → Type 0) →
    ((place : ℕ) → place < length order → P (at entries order place)) → AllByRecursion P (entries_listed entries order)
all_named entries [] P all = tt
all_named entries (x ∷ xs) P all = (all 0 (omega arith), all_named entries xs P (λ place h. all (suc place) (omega arith)))

named_all : (entries : List Entry) (order : List ℕ) (P : Entry → Type 0) → AllByRecursion P (entries_listed entries order) →
    (place : ℕ) → place < length order → P (at entries order place)
named_all entries [] P all place h = absurd (omega arith)
named_all entries (x ∷ xs) P all zero h = all.0
named_all entries (x ∷ xs) P all (suc place) h = named_all entries xs P all.1 place (omega arith)

-- at places below `bound`, no call was answered before a call at an earlier place was called
abbrev pub KeepsPlaces : List Entry → List ℕ → (bound : ℕ) → Type 0
KeepsPlaces entries order bound = (earlier later : ℕ) → earlier < later → later < bound →
    IsAnsweredBefore (at entries order later) (at entries order earlier) → ⊥

pub keeps_from_places : (entries : List Entry) (order : List ℕ) → KeepsPlaces entries order (length order) →
    KeepsOrder (entries_listed entries order)
keeps_from_places entries [] keeps = tt
keeps_from_places entries (x ∷ xs) keeps = (
  all_named entries xs (λ other. IsAnsweredBefore other (entry_at entries x) → ⊥)
      (λ place h. keeps 0 (suc place) (omega arith) (omega arith)),
  keeps_from_places entries xs (λ a b h k. keeps (suc a) (suc b) (omega arith) (omega arith)),
)

pub places_from_keeps : (entries : List Entry) (order : List ℕ) → KeepsOrder (entries_listed entries order) →
    KeepsPlaces entries order (length order)
places_from_keeps entries [] keeps earlier later h k = absurd (omega arith)
places_from_keeps entries (x ∷ xs) keeps earlier zero h k = absurd (omega arith)
places_from_keeps entries (x ∷ xs) keeps zero (suc later) h k =
    named_all entries xs (λ other. IsAnsweredBefore other (entry_at entries x) → ⊥) keeps.0 later (omega arith)
places_from_keeps entries (x ∷ xs) keeps (suc earlier) (suc later) h k =
    places_from_keeps entries xs keeps.1 earlier later (omega arith) (omega arith)

-- no two places below the bound have one call
abbrev pub ApartBelow : List ℕ → (bound : ℕ) → Type 0
ApartBelow order bound = (earlier later : ℕ) → earlier < later → later < bound → get_or order earlier 0 ≢ get_or order later 0

pub distinct_from_places : (order : List ℕ) → ApartBelow order (length order) → IsDistinct nat_eq order
distinct_from_places order apart = IsDistinct-from_apart nat_eq order (λ i j d h k.
    ne_eqb _ _ (λ e. apart i j h k (get_or_default order i 0 d (omega arith) ∙ e ∙ sym (get_or_default order j 0 d k))))

pub places_from_distinct : (order : List ℕ) → IsDistinct nat_eq order → ApartBelow order (length order)
places_from_distinct order distinct earlier later h k e =
    let apart : nat_eq (get_or order earlier 0) (get_or order later 0)
    ≡ false = apart_from_distinct nat_eq order earlier later 0 distinct h k in
    let same = eq-eqb (get_or order earlier 0) (get_or order later 0) e in
    cc

-- what may stand among lawful entries has a value
pub value_there : (entries : List Entry) (call : ℕ) → AreLawfulEntries entries → MayStand (entry_at entries call) →
    IsSome (entry_at entries call).value
value_there entries zero lawful may = absurd (may.0 refl)
value_there entries (suc index) lawful may =
    let call = is_call entries (suc index) may in
    (lawful index (get_or entries index no_entry) (slice_get-get_or entries index no_entry (omega arith))).1 may
