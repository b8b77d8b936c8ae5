-- Entries with tags, and the items of a sequence that they give: answered reads, and writes that have a tag.
use Rattle.std.proofs.Common.{◌≡◌, ◌≢◌, ℕ, zero, suc, ◌+◌, ◌<◌, ◌≤◌, ◌⊎◌, List, [], ◌∷◌, Option, Some, None, refl, sym, subst, ◌∙◌}
use Rattle.std.proofs.Common.{inl, inr, ap₂, arith, slice_get}
use Rattle.std.proofs.lemmas.Option.{same_Some}
use Rattle.std.specs.List.{AllByRecursion}
use Rattle.tag.specs.declared.tag.Tag.{Tag}
use Rattle.tag.specs.Tag.{opening_tag, IsBelow}
use Rattle.record.specs.declared.call.Entry.{Entry}
use Rattle.record.specs.declared.call.Operation.{Operation}
use Rattle.record.specs.declared.call.Operation.TheVariants as operation
use Rattle.record.proofs.TagOrderLemmas.{IsAtMost}
use Rattle.soundness.proofs.ListLemmas.{all_weaker}
use Rattle.atomicity.specs.Atomic.{IsAnsweredBefore}
use Rattle.atomicity.proofs.Orders.ItemSortLemmas.{Differ, sort, all_sort, some_sort, ordered_sort}
use Rattle.atomicity.proofs.Orders.OrderedItemLemmas.{Item, IsKept, IsOrdered, AllPairs, Some_of}

-- the entry at this index is that of a write with this tag and value
pub record HasWritten (entries : List Entry) (tags : ℕ → Option Tag) (tag : Tag) (value : List ℕ) : Type 0 where
  pub index : ℕ
  pub entry : Entry
  pub at : slice_get entries index ≡ Some entry
  pub kind : entry.kind ≡ operation.Write
  pub writes : entry.value ≡ Some value
  pub tagged : tags index ≡ Some tag

-- what is so of the entries if their tags, one for each index, order them as one register
pub record AreTagged (entries : List Entry) (tags : ℕ → Option Tag) : Type 0 where
  pub in_turn : (i j : ℕ) (a b : Entry) → slice_get entries i ≡ Some a → slice_get entries j ≡ Some b → i < j → a.called < b.called
  pub answers : (i : ℕ) (a : Entry) (step : ℕ) → slice_get entries i ≡ Some a → a.kind ≢ operation.Move → a.answered ≡ Some step →
      (a.called ≤ step) × (tag : Tag) × (tags i ≡ Some tag)
  pub respects : (i j : ℕ) (a b : Entry) (s u : Tag) → slice_get entries i ≡ Some a → slice_get entries j ≡ Some b →
      a.kind ≢ operation.Move → b.kind ≢ operation.Move → tags i ≡ Some s → tags j ≡ Some u → IsAnsweredBefore a b →
      IsAtMost s u × (b.kind ≡ operation.Write → IsBelow s u)
  pub writes : (i : ℕ) (a : Entry) → slice_get entries i ≡ Some a → a.kind ≡ operation.Write →
      (value : List ℕ) × (a.value ≡ Some value)
  pub above : (i : ℕ) (a : Entry) (tag : Tag) → slice_get entries i ≡ Some a → a.kind ≡ operation.Write → tags i ≡ Some tag →
      IsBelow opening_tag tag
  pub apart : (i j : ℕ) (a b : Entry) (s u : Tag) → slice_get entries i ≡ Some a → slice_get entries j ≡ Some b →
      a.kind ≡ operation.Write → b.kind ≡ operation.Write → tags i ≡ Some s → tags j ≡ Some u → s.call ≡ u.call → i ≡ j
  pub reads : (i : ℕ) (a : Entry) (step : ℕ) (tag : Tag) → slice_get entries i ≡ Some a → a.kind ≡ operation.Read →
      a.answered ≡ Some step → tags i ≡ Some tag →
      (value : List ℕ) × (a.value ≡ Some value) × (((tag ≡ opening_tag) × (value ≡ [])) ⊎ HasWritten entries tags tag value)

-- an item is an entry with its tag, of a write with its value or of an answered read with what it returned
pub record IsItemOf (entries : List Entry) (tags : ℕ → Option Tag) (x : Item) : Type 0 where
  pub index : ℕ
  pub at : slice_get entries index ≡ Some x.entry
  pub number : x.number ≡ suc index
  pub tagged : tags index ≡ Some x.tag
  pub called : x.called ≡ x.entry.called
  pub kept : IsKept x
  pub answered : x.reads ≡ 1 → (step : ℕ) × (x.entry.answered ≡ Some step)

-- the item of an entry with this tag and value: of an answered read (1), or of a write (0)
abbrev pub item_at : (index : ℕ) → Entry → (reads : ℕ) → (value : List ℕ) → Tag → Item
item_at index entry reads value tag = record {
  number = suc index;
  tag = tag;
  reads = reads;
  called = entry.called;
  value = value;
  entry = entry;
}

-- the item of an entry, if it has one
abbrev pub choose : (index : ℕ) → Entry → Operation → Option ℕ → Option (List ℕ) → Option Tag → Option Item
choose index entry operation.Read (Some step) (Some value) (Some tag) = Some (item_at index entry 1 value tag)
choose index entry operation.Write answered (Some value) (Some tag) = Some (item_at index entry 0 value tag)
choose index entry _ _ _ _ = None

pub choose_read : (index : ℕ) (entry : Entry) (kind : Operation) (answered : Option ℕ) (returned : Option (List ℕ)) (tag : Option Tag)
    (step : ℕ) (value : List ℕ) (t : Tag) → kind ≡ operation.Read → answered ≡ Some step → returned ≡ Some value → tag ≡ Some t →
    choose index entry kind answered returned tag ≡ Some (item_at index entry 1 value t)
choose_read index entry kind answered returned tag step value t k a v e = rw (k, a, v, e) refl

pub choose_write : (index : ℕ) (entry : Entry) (kind : Operation) (answered : Option ℕ) (written : Option (List ℕ)) (tag : Option Tag)
    (value : List ℕ) (t : Tag) → kind ≡ operation.Write → written ≡ Some value → tag ≡ Some t →
    choose index entry kind answered written tag ≡ Some (item_at index entry 0 value t)
choose_write index entry kind answered written tag value t k v e = rw (k, v, e) refl

abbrev pub item_of : (ℕ → Option Tag) → ℕ → Entry → Option Item
item_of tags index entry = choose index entry entry.kind entry.answered entry.value (tags index)

abbrev with : Option Item → List Item → List Item
with None xs = xs
with (Some x) xs = x ∷ xs

abbrev items : (ℕ → Option Tag) → ℕ → List Entry → List Item
items tags index [] = []
items tags index (entry ∷ entries) = with (item_of tags index entry) (items tags (suc index) entries)

-- what is so of the item of this entry
record IsChosen (index : ℕ) (entry : Entry) (tag : Option Tag) (x : Item) : Type 0 where
  number : x.number ≡ suc index
  tagged : tag ≡ Some x.tag
  called : x.called ≡ entry.called
  same : x.entry ≡ entry
  kept : IsKept x
  answered : x.reads ≡ 1 → (step : ℕ) × (x.entry.answered ≡ Some step)

chosen : (index : ℕ) (entry : Entry) (kind : Operation) (answered : Option ℕ) (value : Option (List ℕ)) (tag : Option Tag)
    (x : Item) → entry.kind ≡ kind → entry.answered ≡ answered → entry.value ≡ value →
    choose index entry kind answered value tag ≡ Some x → IsChosen index entry tag x
chosen index entry operation.Read (Some step) (Some value) (Some tag) x k a v e =
    subst (λ y. IsChosen index entry (Some tag) y) (same_Some _ x e) (record {
      number = refl;
      tagged = refl;
      called = refl;
      same = refl;
      kept = inr (refl, k, v);
      answered = λ one. (step, a);
    })
chosen index entry operation.Write answered (Some value) (Some tag) x k a v e =
    subst (λ y. IsChosen index entry (Some tag) y) (same_Some _ x e) (record {
      number = refl;
      tagged = refl;
      called = refl;
      same = refl;
      kept = inl (refl, k, v);
      answered = λ one. absurd (let none : 0 ≡ 1 = one in omega arith);
    })
chosen index entry _ _ _ _ x k a v e = absurd (cc)

item_is : (entries : List Entry) (tags : ℕ → Option Tag) (index : ℕ) (entry : Entry) (x : Item) →
    slice_get entries index ≡ Some entry → IsChosen index entry (tags index) x → IsItemOf entries tags x
item_is entries tags index entry x at c = record {
  index = index;
  at = subst (λ y. slice_get entries index ≡ Some y) (sym c.same) at;
  number = c.number;
  tagged = c.tagged;
  called = subst (λ (y : Entry). x.called ≡ y.called) (sym c.same) c.called;
  kept = c.kept;
  answered = c.answered;
}

-- entries from `index` on
abbrev AreFrom : List Entry → ℕ → List Entry → Type 0
AreFrom entries index later =
    (j : ℕ) (entry : Entry) → slice_get later j ≡ Some entry → slice_get entries (index + j) ≡ Some entry

from_next : (entries : List Entry) (index : ℕ) (entry : Entry) (later : List Entry) → AreFrom entries index (entry ∷ later) →
    AreFrom entries (suc index) later
from_next entries index entry later from j other e =
    let same : index + suc j ≡ suc index + j = omega arith in
    subst (λ k. slice_get entries k ≡ Some other) same (from (suc j) other e)

from_here : (entries : List Entry) (index : ℕ) (entry : Entry) (later : List Entry) → AreFrom entries index (entry ∷ later) →
    slice_get entries index ≡ Some entry
from_here entries index entry later from =
    let same : index + 0 ≡ index = omega arith in subst (λ k. slice_get entries k ≡ Some entry) same (from 0 entry refl)

all_from : (entries : List Entry) → AreFrom entries 0 entries
all_from entries j entry e = let same : j ≡ 0 + j = omega arith in subst (λ k. slice_get entries k ≡ Some entry) same e

abbrev IsItemFrom : List Entry → (ℕ → Option Tag) → ℕ → Item → Type 0
IsItemFrom entries tags index x = IsItemOf entries tags x × (index < x.number)

later_called : (entries : List Entry) (tags : ℕ → Option Tag) → AreTagged entries tags → (x y : Item) → IsItemOf entries tags x →
    IsItemOf entries tags y → x.number < y.number → Differ x y
later_called entries tags are x y ix iy less same =
    let before = are.in_turn ix.index iy.index x.entry y.entry ix.at iy.at (let a = ix.number in let b = iy.number in omega arith) in
    let a = ix.called in
    let b = iy.called in
    omega arith

items_are : (entries : List Entry) (tags : ℕ → Option Tag) → AreTagged entries tags → (index : ℕ) (later : List Entry) →
    AreFrom entries index later →
    AllByRecursion (IsItemFrom entries tags index) (items tags index later) × AllPairs Differ (items tags index later)
items_are entries tags are index [] from = (tt, tt)
items_are entries tags are index (entry ∷ later) from =
    go (item_of tags index entry) refl (items_are entries tags are (suc index) later (from_next entries index entry later from))
  where
    rest : List Item
    rest = items tags (suc index) later

    go : (o : Option Item) → item_of tags index entry ≡ o →
        AllByRecursion (IsItemFrom entries tags (suc index)) rest × AllPairs Differ rest →
        AllByRecursion (IsItemFrom entries tags index) (with o rest) × AllPairs Differ (with o rest)
    go None e known = (
      all_weaker (IsItemFrom entries tags (suc index)) (IsItemFrom entries tags index)
          (λ x p. (p.0, let less = p.1 in omega arith)) rest known.0,
      known.1,
    )
    go (Some x) e known =
        let c = chosen index entry entry.kind entry.answered entry.value (tags index) x refl refl refl e in
        let is = item_is entries tags index entry x (from_here entries index entry later from) c in
        let n = c.number in (
          (
            (is, omega arith),
            all_weaker (IsItemFrom entries tags (suc index)) (IsItemFrom entries tags index)
                (λ y p. (p.0, let less = p.1 in omega arith)) rest known.0,
          ),
          (
            all_weaker (IsItemFrom entries tags (suc index)) (Differ x)
                (λ y p. later_called entries tags are x y is p.0 (let less = p.1 in omega arith)) rest known.0,
            known.1,
          ),
        )

some_with : (P : Item → Type 0) (o : Option Item) (xs : List Item) → Some_of P xs → Some_of P (with o xs)
some_with P o xs some = grind arith

items_have : (tags : ℕ → Option Tag) (P : Item → Type 0) (index : ℕ) (later : List Entry) (j : ℕ) (entry : Entry) (x : Item) →
    slice_get later j ≡ Some entry → item_of tags (index + j) entry ≡ Some x → P x → Some_of P (items tags index later)
items_have tags P index [] j entry x at e p = absurd (cc)
items_have tags P index (first ∷ later) zero entry x at e p =
    let same : index + 0 ≡ index = omega arith in
    let one : item_of tags index first ≡ Some x = ap₂ (λ i c. item_of tags i c) (sym same) (same_Some first entry at) ∙ e in
    subst (λ o. Some_of P (with o (items tags (suc index) later))) (sym one) (inl p)
items_have tags P index (first ∷ later) (suc j) entry x at e p =
    let same : index + suc j ≡ suc index + j = omega arith in
    some_with P (item_of tags index first) (items tags (suc index) later)
    (items_have tags P (suc index) later j entry x at (subst (λ i. item_of tags i entry ≡ Some x) same e) p)

-- the sequence: all answered reads, and all writes that have a tag
abbrev pub sequence : List Entry → (ℕ → Option Tag) → List Item
sequence entries tags = sort (items tags 0 entries)

pub sequence_items : (entries : List Entry) (tags : ℕ → Option Tag) → AreTagged entries tags →
    AllByRecursion (IsItemOf entries tags) (sequence entries tags)
sequence_items entries tags are = all_sort (IsItemOf entries tags) (items tags 0 entries)
    (all_weaker (IsItemFrom entries tags 0) (IsItemOf entries tags) (λ x p. p.0) (items tags 0 entries)
    (items_are entries tags are 0 entries (all_from entries)).0)

pub sequence_ordered : (entries : List Entry) (tags : ℕ → Option Tag) → AreTagged entries tags → IsOrdered (sequence entries tags)
sequence_ordered entries tags are = ordered_sort (items tags 0 entries) (items_are entries tags are 0 entries (all_from entries)).1

pub sequence_has : (entries : List Entry) (tags : ℕ → Option Tag) (P : Item → Type 0) (index : ℕ) (entry : Entry) (x : Item) →
    slice_get entries index ≡ Some entry → item_of tags index entry ≡ Some x → P x → Some_of P (sequence entries tags)
sequence_has entries tags P index entry x at e p =
    let same : index ≡ 0 + index = omega arith in
    some_sort P (items tags 0 entries)
    (items_have tags P 0 entries index entry x at (subst (λ i. item_of tags i entry ≡ Some x) same e) p)
