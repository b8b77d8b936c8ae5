-- All nodes for the object of one name, and what they lead to.
use Rattle.std.proofs.Common.{◌≡◌, ◌⊎◌, inl, inr, ℕ, zero, suc, cond, eq-eqb, List, [], ◌∷◌, ◌++◌}
use Rattle.std.proofs.Common.{map, Option, None, Some, slice_get, refl, sym, subst, ap}
use Rattle.std.proofs.lemmas.Bool.{ne_eqb}
use Rattle.std.proofs.lemmas.Option.{same_Some}
use Rattle.std.specs.List.{AllByRecursion}
use Rattle.record.specs.declared.call.Entry.{Entry}
use Rattle.record.specs.Fragments.{Code}
use Rattle.deeds.specs.CallId.{CallIds}
use Rattle.letter.specs.declared.letter.Letter.{Letter}
use Rattle.local_object.specs.declared.progress.Ended.{Ended}
use Rattle.local_object.specs.Local.{LocalObject}
use Rattle.refinement.specs.Systems.{IsReachedSystem, System, WasPosted, with_object_at}
use Rattle.deeds.specs.Named.{IsOneOf, NamedLetter, with_names}
use Rattle.deeds.specs.Deeds.{Notice}
use Rattle.deeds.proofs.NameLemmas.{one_of_both}
use Rattle.refinement.proofs.HistoryLemmas.{IsHistoryAt}
use Rattle.refinement.proofs.PlaceLemmas.{get_first}
use Rattle.refinement.proofs.ToldEntryLemmas.{same_call}
use Rattle.refinement.specs.Histories.{told_entry}
use Rattle.deeds.proofs.UsedIdLemmas.{IsUsed}

-- all nodes for the object of the name, who sent these letters about it, of whose clients these saw the notices, and
-- whose calls have ids that were given
pub record Follows (fragment : Code) (name : List ℕ) (system : System) (ids : ℕ → CallIds) (letters : List NamedLetter)
    (notices : List Notice) : Type 0 where
  pub reached : IsReachedSystem fragment system
  pub posted : (letter : Letter) → IsOneOf letters (record { name = name; letter = letter }) → WasPosted system letter
  pub used : AllByRecursion (λ entry. IsUsed ids entry.call) system.history
  pub history : IsHistoryAt name notices system.history system.now

-- all nodes come to such ones, among which this node keeps this, and the others what they kept
pub record Leads (fragment : Code) (name : List ℕ) (system : System) (number : ℕ) (local : LocalObject)
    (ids : ℕ → CallIds) (letters : List NamedLetter) (notices : List Notice) : Type 0 where
  pub next : System
  pub own : next.objects number ≡ local
  pub others : (other : ℕ) → (other ≡ number → ⊥) → next.objects other ≡ system.objects other
  pub files : next.files ≡ system.files
  pub follows : Follows fragment name next ids letters notices

pub own_object : (objects : ℕ → LocalObject) (node : ℕ) (local : LocalObject) → with_object_at objects node local node ≡ local
own_object objects node local = ap (λ b. cond b local (objects node)) (eq-eqb node node refl)

pub other_object : (objects : ℕ → LocalObject) (node : ℕ) (local : LocalObject) (other : ℕ) → (other ≡ node → ⊥) →
    with_object_at objects node local other ≡ objects other
other_object objects node local other apart = ap (λ b. cond b local (objects other)) (ne_eqb other node apart)

-- Letters

get_named : (name : List ℕ) (letters : List Letter) (i : ℕ) (letter : Letter) →
    slice_get (with_names name letters) i ≡ Some (record { name = name; letter = letter }) → slice_get letters i ≡ Some letter
get_named name [] i letter e = absurd (cc)
get_named name (first ∷ letters) zero letter e =
    let a : NamedLetter = record { name = name; letter = first } in
    let b : NamedLetter = record { name = name; letter = letter } in
    ap (λ (l : NamedLetter). Some l.letter) (same_Some a b e)
get_named name (first ∷ letters) (suc i) letter e = get_named name letters i letter e

get_second : (xs ys : List Letter) (i : ℕ) (x : Letter) → slice_get ys i ≡ Some x → (j : ℕ) × (slice_get (xs ++ ys) j ≡ Some x)
get_second [] ys i x e = (i, e)
get_second (y ∷ xs) ys i x e = let rest = get_second xs ys i x e in (suc rest.0, rest.1)

pub posted_more : (name : List ℕ) (posted sent : List Letter) (letters : List NamedLetter) →
    ((letter : Letter) → IsOneOf letters (record { name = name; letter = letter }) →
    (place : ℕ) × (slice_get posted place ≡ Some letter)) → (letter : Letter) →
    IsOneOf (letters ++ with_names name sent) (record { name = name; letter = letter }) →
    (place : ℕ) × (slice_get (posted ++ sent) place ≡ Some letter)
posted_more name posted sent letters first letter is =
    go (one_of_both letters (with_names name sent) (record { name = name; letter = letter }) is)
  where
    go : IsOneOf letters (record { name = name; letter = letter })
        ⊎ IsOneOf (with_names name sent) (record { name = name; letter = letter }) →
        (place : ℕ) × (slice_get (posted ++ sent) place ≡ Some letter)
    go (inl a) = let there = first letter a in (there.0, get_first posted sent there.0 letter there.1)
    go (inr b) = get_second posted sent b.0 letter (get_named name sent b.0 letter b.1)

-- Entries

pub all_map : {A : Type 0} (P : A → Type 0) (f : A → A) → ((x : A) → P x → P (f x)) → (xs : List A) → AllByRecursion P xs →
    AllByRecursion P (map f xs)
all_map P f each [] all = tt
all_map P f each (x ∷ xs) all = (each x all.0, all_map P f each xs all.1)

pub used_told : (ids : ℕ → CallIds) (ended : Ended) (now : ℕ) (entry : Entry) → IsUsed ids entry.call →
    IsUsed ids (told_entry ended now entry).call
used_told ids ended now entry used = subst (IsUsed ids) (sym (same_call ended now entry)) used

-- the answer that a notice tells
abbrev ended_of : Notice → (other : Ended) → Ended
ended_of (Notice.Tells name ended) other = ended
ended_of _ other = other

abbrev pub ended_in : Option Notice → (other : Ended) → Ended
ended_in None other = other
ended_in (Some notice) other = ended_of notice other
