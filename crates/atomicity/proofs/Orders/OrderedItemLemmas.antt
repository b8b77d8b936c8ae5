-- Items in the order of their tags, and what is so of each list that is ordered and keeps its writes.
use Rattle.std.proofs.Common.{◌≡◌, ℕ, ◌<◌, ◌⊎◌, List, [], ◌∷◌, map, Some, refl, ap, ◌∙◌, inl, inr, arith}
use Rattle.std.specs.List.{AllByRecursion}
use Rattle.tag.specs.declared.tag.Tag.{Tag}
use Rattle.tag.specs.Tag.{IsBelow}
use Rattle.record.specs.declared.call.Entry.{Entry}
use Rattle.atomicity.specs.Atomic.{IsRegister}
use Rattle.record.specs.declared.call.Operation.TheVariants as operation
use Rattle.soundness.proofs.ListLemmas.{all_weaker, all_pairs}

-- a call that stands in the list
pub record Item : Type 0 where
  pub number : ℕ
  pub tag : Tag
  pub reads : ℕ
  pub called : ℕ
  pub value : List ℕ
  pub entry : Entry

-- the order of the list
abbrev pub Before : Item → Item → Type 0
Before a b = (a.tag.number < b.tag.number)
    ⊎ ((a.tag.number ≡ b.tag.number) × ((a.tag.call < b.tag.call) ⊎ ((a.tag.call ≡ b.tag.call) ×
    ((a.reads < b.reads) ⊎ ((a.reads ≡ b.reads) × (a.called < b.called))))))

pub before_trans : (a b c : Item) → Before a b → Before b c → Before a c
before_trans a b c p q = grind arith

-- each stands before all that follow
abbrev pub IsOrdered : List Item → Type 0
IsOrdered [] = Unit {0}
IsOrdered (x ∷ xs) = AllByRecursion (Before x) xs × IsOrdered xs

-- some item of the list
abbrev pub Some_of : (Item → Type 0) → List Item → Type 0
Some_of P [] = ⊥
Some_of P (x ∷ xs) = P x ⊎ Some_of P xs

pub some_and_all : (P Q : Item → Type 0) (xs : List Item) → Some_of P xs → AllByRecursion Q xs → (x : Item) × P x × Q x
some_and_all P Q [] some all = absurd some
some_and_all P Q (x ∷ xs) (inl here) all = (x, here, all.0)
some_and_all P Q (x ∷ xs) (inr there) all = some_and_all P Q xs there all.1

-- an item's entry is that of a read or of a write with its value
abbrev pub IsKept : Item → Type 0
IsKept x = ((x.reads ≡ 0) × (x.entry.kind ≡ operation.Write) × (x.entry.value ≡ Some x.value)) ⊎
    ((x.reads ≡ 1) × (x.entry.kind ≡ operation.Read) × (x.entry.value ≡ Some x.value))

-- w is the write that r returned
abbrev pub Wrote : Item → Item → Type 0
Wrote r w = (w.reads ≡ 0) × (w.tag ≡ r.tag) × (w.value ≡ r.value)

-- two writes of the list have two tags
abbrev pub Apart : Item → Item → Type 0
Apart a b = a.reads ≡ 0 → b.reads ≡ 0 → IsBelow a.tag b.tag

abbrev pub AllPairs : (Item → Item → Type 0) → List Item → Type 0
AllPairs R [] = Unit {0}
AllPairs R (x ∷ xs) = AllByRecursion (R x) xs × AllPairs R xs

-- a read has the last value, or its write is still to come
abbrev pub Rests : Tag → List ℕ → List Item → Item → Type 0
Rests last current xs r = r.reads ≡ 1 → ((r.tag ≡ last) × (r.value ≡ current)) ⊎ Some_of (Wrote r) xs

tag_parts : (a b : Tag) → a ≡ b → (a.number ≡ b.number) × (a.call ≡ b.call)
tag_parts a b e = (ap (λ (t : Tag). t.number) e, ap (λ (t : Tag). t.call) e)

after_write : (x r : Item) (last : Tag) (current : List ℕ) (xs : List Item) → x.reads ≡ 0 → IsBelow last x.tag → Before x r →
    Rests last current (x ∷ xs) r → Rests x.tag x.value xs r
after_write x r last current xs w above before rests = grind arith

after_read : (x r : Item) (last : Tag) (current : List ℕ) (xs : List Item) → x.reads ≡ 1 → Rests last current (x ∷ xs) r →
    Rests last current xs r
after_read x r last current xs w rests = grind arith

-- a read's write does not come behind it
rests_here : (x : Item) (last : Tag) (current : List ℕ) (xs : List Item) → x.reads ≡ 1 → AllByRecursion (Before x) xs →
    Rests last current (x ∷ xs) x → (x.tag ≡ last) × (x.value ≡ current)
rests_here x last current xs reads ordered rests = grind (arith, some_and_all, tag_parts)

pub register : (xs : List Item) (last : Tag) (current : List ℕ) → IsOrdered xs → AllPairs Apart xs → AllByRecursion IsKept xs →
    AllByRecursion (λ x. x.reads ≡ 0 → IsBelow last x.tag) xs → AllByRecursion (Rests last current xs) xs →
    IsRegister current (map (λ (x : Item). x.entry) xs)
register [] last current ordered apart kept above rests = tt
register (x ∷ xs) last current ordered apart kept above rests =
    go kept.0 (λ last current above rests. register xs last current ordered.1 apart.1 kept.1 above rests)
  where
    go : IsKept x → ((last : Tag) (current : List ℕ) → AllByRecursion (λ x. x.reads ≡ 0 → IsBelow last x.tag) xs →
        AllByRecursion (Rests last current xs) xs → IsRegister current (map (λ (x : Item). x.entry) xs)) →
        IsRegister current (map (λ (x : Item). x.entry) (x ∷ xs))
    go (inl w) again = (
      x.value,
      rw w.1 w.2,
      again x.tag x.value (all_weaker (Apart x) (λ y. y.reads ≡ 0 → IsBelow x.tag y.tag) (λ y a. a w.0) xs apart.0)
          (all_weaker (λ r. Before x r × Rests last current (x ∷ xs) r) (Rests x.tag x.value xs)
          (λ r p. after_write x r last current xs w.0 (above.0 w.0) p.0 p.1) xs
          (all_pairs (Before x) (Rests last current (x ∷ xs)) xs ordered.0 rests.1)),
    )
    go (inr r) again =
        let here = rests_here x last current xs r.0 ordered.0 rests.0 in (
          current,
          rw r.1 (r.2 ∙ ap Some here.1, refl),
          again last current above.1
              (all_weaker (Rests last current (x ∷ xs)) (Rests last current xs) (λ y p. after_read x y last current xs r.0 p) xs
              rests.1),
        )
