-- Entries whose tags order them as one register: their items in the order of the tags are a sequence of them.
use Rattle.std.proofs.Common.{◌≡◌, ◌≢◌, ℕ, zero, suc, ◌⊎◌, true, List, [], map, Option, Some, None, IsSome, refl, sym, subst, ap, ◌∙◌}
use Rattle.std.proofs.Common.{inl, inr, arith, slice_get}
use Rattle.std.proofs.lemmas.Option.{same_Some, get_or_from_slice_get, unwrap_or-slice_get}
use Rattle.std.specs.List.{AllByRecursion}
use Rattle.std.specs.Prelude.{unwrap_or}
use Rattle.tag.specs.declared.tag.Tag.{Tag}
use Rattle.tag.specs.Tag.{opening_tag, IsBelow}
use Rattle.layout.specs.Quorum.{has}
use Rattle.record.specs.declared.call.Entry.{Entry}
use Rattle.record.specs.declared.call.Operation.{Operation}
use Rattle.record.specs.declared.call.Operation.TheVariants as operation
use Rattle.soundness.proofs.ListLemmas.{all_pairs, all_weaker}
use Rattle.atomicity.specs.Atomic.{no_entry, entry_at, IsAnsweredBefore, IsSequence, MayStand, IsAtomic, IsRegister, KeepsOrder}
use Rattle.atomicity.proofs.Orders.ItemSortLemmas.{pairs_of, numbers, numbers_all, distinct_numbers, has_number, keeps_order}
use Rattle.atomicity.proofs.Orders.ItemSortLemmas.{Respects, answered_in_order}
use Rattle.atomicity.proofs.Orders.OrderedItemLemmas.{Item, Before, IsOrdered, Some_of, IsKept, Wrote, Apart, Rests, register}
use Rattle.atomicity.proofs.Sequences.ItemEntryLemmas.{same_entries, some_step}
use Rattle.atomicity.proofs.Sequences.EntryItemLemmas.{AreTagged, HasWritten, IsItemOf, sequence, sequence_items}
use Rattle.atomicity.proofs.Sequences.EntryItemLemmas.{choose_read, choose_write, sequence_has, sequence_ordered}

-- items in order, that have each answered read or write, and the write of each read that returns a written value
pub record AreWhole (entries : List Entry) (tags : ℕ → Option Tag) (xs : List Item) : Type 0 where
  pub items : AllByRecursion (IsItemOf entries tags) xs
  pub ordered : IsOrdered xs
  pub answered : (index : ℕ) (entry : Entry) (step : ℕ) → slice_get entries index ≡ Some entry → entry.answered ≡ Some step →
      entry.kind ≢ operation.Move → Some_of (λ x. x.number ≡ suc index) xs
  pub written : AllByRecursion (λ r. r.reads ≡ 1 → HasWritten entries tags r.tag r.value → Some_of (Wrote r) xs) xs

-- an item whose entry is this one
item_stands : (x : Item) → IsKept x → x.entry.kind ≢ operation.Move
item_stands x kept e = grind arith

item_may : (x : Item) → IsKept x → (x.reads ≡ 1 → (step : ℕ) × (x.entry.answered ≡ Some step)) → MayStand x.entry
item_may x kept answered = grind arith

item_does : (x : Item) → IsKept x → (x.reads ≡ 0) ⊎ (x.reads ≡ 1)
item_does x kept = grind arith

item_writes : (x : Item) → IsKept x → x.reads ≡ 0 → x.entry.kind ≡ operation.Write
item_writes x kept w = grind arith

item_reads : (x : Item) → IsKept x → x.reads ≡ 1 → (x.entry.kind ≡ operation.Read) × (x.entry.value ≡ Some x.value)
item_reads x kept r = grind arith

-- no item stands before one of the same entry
not_before : (x y : Item) → IsKept x → IsKept y → x.entry.kind ≡ y.entry.kind → x.called ≡ y.called →
    x.tag.number ≡ y.tag.number → x.tag.call ≡ y.tag.call → Before x y → ⊥
not_before x y kx ky kind called number call before = grind arith

apart_tags : (x y : Item) → Before x y → (x.tag.call ≡ y.tag.call → ⊥) → IsBelow x.tag y.tag
apart_tags x y before two = grind arith

module _ (entries : List Entry) (tags : ℕ → Option Tag) (are : AreTagged entries tags) where
  entry_here : (x : Item) → IsItemOf entries tags x → entry_at entries x.number ≡ x.entry
  entry_here x ix = ap (λ n. entry_at entries n) ix.number ∙ get_or_from_slice_get entries ix.index x.entry no_entry ix.at

  two_numbers : (x y : Item) → IsItemOf entries tags x → IsItemOf entries tags y → Before x y → x.number ≡ y.number → ⊥
  two_numbers x y ix iy before e =
      let i : ix.index ≡ iy.index = (let a = ix.number in let b = iy.number in omega arith) in
      let one : x.entry ≡ y.entry = same_Some x.entry y.entry (sym ix.at ∙ ap (λ k. slice_get entries k) i ∙ iy.at) in
      let tag : x.tag ≡ y.tag = same_Some x.tag y.tag (sym ix.tagged ∙ ap tags i ∙ iy.tagged) in
      not_before x y ix.kept iy.kept (ap (λ (e : Entry). e.kind) one)
      (ix.called ∙ ap (λ (e : Entry). e.called) one ∙ sym iy.called)
      (ap (λ (t : Tag). t.number) tag) (ap (λ (t : Tag). t.call) tag) before

  respects : (x y : Item) → IsItemOf entries tags x → IsItemOf entries tags y → Respects x y
  respects x y ix iy before =
      let r = are.respects ix.index iy.index x.entry y.entry x.tag y.tag ix.at iy.at (item_stands x ix.kept) (item_stands y iy.kept)
      ix.tagged iy.tagged before in
      (r.0, λ w. r.1 (item_writes y iy.kept w))

  in_order : (x y : Item) → IsItemOf entries tags x → IsItemOf entries tags y → Before x y → IsAnsweredBefore y.entry x.entry → ⊥
  in_order x y ix iy before =
      answered_in_order x y (respects y x iy ix) (item_does x ix.kept) (item_does y iy.kept) (sym ix.called)
      (λ step e. let a = (are.answers iy.index y.entry step iy.at (item_stands y iy.kept) e).0 in let c = iy.called in omega arith)
      before

  writes_apart : (x y : Item) → IsItemOf entries tags x → IsItemOf entries tags y → Before x y → Apart x y
  writes_apart x y ix iy before = λ wx wy.
      apart_tags x y before (λ same.
      let place = are.apart ix.index iy.index x.entry y.entry x.tag y.tag ix.at iy.at (item_writes x ix.kept wx)
      (item_writes y iy.kept wy) ix.tagged iy.tagged same in
      two_numbers x y ix iy before (let a = ix.number in let b = iy.number in omega arith))

  -- each read has its write among them, or the empty value
  read_rests : (xs : List Item) (x : Item) → IsItemOf entries tags x →
      (x.reads ≡ 1 → HasWritten entries tags x.tag x.value → Some_of (Wrote x) xs) → Rests opening_tag [] xs x
  read_rests xs x ix written r =
      let read = item_reads x ix.kept r in
      let step = ix.answered r in
      let j = are.reads ix.index x.entry step.0 x.tag ix.at read.0 step.1 ix.tagged in
      found j.0 (same_Some j.0 x.value (sym j.1 ∙ read.1)) j.2
    where
      found : (value : List ℕ) → value ≡ x.value →
          ((x.tag ≡ opening_tag) × (value ≡ [])) ⊎ HasWritten entries tags x.tag value →
          ((x.tag ≡ opening_tag) × (x.value ≡ [])) ⊎ Some_of (Wrote x) xs
      found value v (inl empty) = inl (empty.0, sym v ∙ empty.1)
      found value v (inr w) = inr (written r (subst (λ u. HasWritten entries tags x.tag u) v w))

  complete : (xs : List Item) → AreWhole entries tags xs → (number : ℕ) → (entry_at entries number).kind ≢ operation.Move →
      IsSome (entry_at entries number).answered → has (numbers xs) number ≡ true
  complete xs whole zero other answered = absurd (other refl)
  complete xs whole (suc index) other answered = go (slice_get entries index) refl
    where
      here : (o : Option Entry) → slice_get entries index ≡ o → entry_at entries (suc index) ≡ unwrap_or o no_entry
      here o e = sym (unwrap_or-slice_get entries index no_entry) ∙ ap (λ p. unwrap_or p no_entry) e

      go : (o : Option Entry) → slice_get entries index ≡ o → has (numbers xs) (suc index) ≡ true
      go None e = absurd (other (ap (λ (y : Entry). y.kind) (here None e)))
      go (Some entry) e =
          let same = here (Some entry) e in
          let step = some_step entry.answered (subst (λ (y : Entry). IsSome y.answered) same answered) in
          has_number xs (suc index)
          (whole.answered index entry step.0 e step.1 (subst (λ (y : Entry). y.kind ≢ operation.Move) same other))

  -- such items are a sequence of the entries
  pub sequence_of_whole : (xs : List Item) → AreWhole entries tags xs → IsSequence entries (numbers xs)
  sequence_of_whole xs whole = record {
    distinct = distinct_numbers xs
        (pairs_of (IsItemOf entries tags) (λ x y. x.number ≡ y.number → ⊥) (λ x y ix iy b. two_numbers x y ix iy b) xs all ordered);
    fitting = numbers_all (λ number. MayStand (entry_at entries number)) xs
        (all_weaker (IsItemOf entries tags) (λ x. MayStand (entry_at entries x.number))
        (λ x ix. subst MayStand (sym (entry_here x ix)) (item_may x ix.kept ix.answered)) xs all);
    complete = complete xs whole;
    one_register = subst (IsRegister []) (sym same)
        (register xs opening_tag [] ordered
        (pairs_of (IsItemOf entries tags) Apart (λ x y ix iy b. writes_apart x y ix iy b) xs all ordered)
        (all_weaker (IsItemOf entries tags) IsKept (λ x ix. ix.kept) xs all)
        (all_weaker (IsItemOf entries tags) (λ x. x.reads ≡ 0 → IsBelow opening_tag x.tag)
        (λ x ix w. are.above ix.index x.entry x.tag ix.at (item_writes x ix.kept w) ix.tagged) xs all)
        (all_weaker (λ x. IsItemOf entries tags x × Writes x) (Rests opening_tag [] xs) (λ x p. read_rests xs x p.0 p.1) xs
        (all_pairs (IsItemOf entries tags) Writes xs all whole.written)));
    in_order = subst KeepsOrder (sym same)
        (keeps_order xs
        (pairs_of (IsItemOf entries tags) (λ x y. IsAnsweredBefore y.entry x.entry → ⊥) (λ x y ix iy b. in_order x y ix iy b) xs all
        ordered));
  }
    where
      all : AllByRecursion (IsItemOf entries tags) xs
      all = whole.items

      ordered : IsOrdered xs
      ordered = whole.ordered

      Writes : Item → Type 0
      Writes r = r.reads ≡ 1 → HasWritten entries tags r.tag r.value → Some_of (Wrote r) xs

      same : map (λ number. entry_at entries number) (numbers xs) ≡ map (λ (x : Item). x.entry) xs
      same = same_entries entries xs
          (all_weaker (IsItemOf entries tags) (λ x. entry_at entries x.number ≡ x.entry) (λ x ix. entry_here x ix) xs all)

  -- All answered reads, and all writes that have a tag

  abbrev found : List Item
  found = sequence entries tags

  write_found : (P : Item → Type 0) (tag : Tag) (value : List ℕ) → (w : HasWritten entries tags tag value) →
      ((x : Item) → x.number ≡ suc w.index → x.reads ≡ 0 → x.tag ≡ tag → x.value ≡ value → P x) → Some_of P found
  write_found P tag value w holds =
      sequence_has entries tags P w.index w.entry
      (record { number = suc w.index; tag = tag; reads = 0; called = w.entry.called; value = value; entry = w.entry }) w.at
      (choose_write w.index w.entry w.entry.kind w.entry.answered w.entry.value (tags w.index) value tag w.kind w.writes w.tagged)
      (holds (record { number = suc w.index; tag = tag; reads = 0; called = w.entry.called; value = value; entry = w.entry })
      refl refl refl refl)

  answered_found : (index : ℕ) (entry : Entry) (step : ℕ) → slice_get entries index ≡ Some entry → entry.answered ≡ Some step →
      (kind : Operation) → entry.kind ≡ kind → kind ≢ operation.Move → Some_of (λ x. x.number ≡ suc index) found
  answered_found index entry step at e operation.Read k other =
      let has = are.answers index entry step at (subst (λ k. k ≢ operation.Move) (sym k) other) e in
      let j = are.reads index entry step has.1 at k e has.2 in
      sequence_has entries tags (λ x. x.number ≡ suc index) index entry
      (record { number = suc index; tag = has.1; reads = 1; called = entry.called; value = j.0; entry = entry }) at
      (choose_read index entry entry.kind entry.answered entry.value (tags index) step j.0 has.1 k e j.1 has.2) refl
  answered_found index entry step at e operation.Write k other =
      let has = are.answers index entry step at (subst (λ k. k ≢ operation.Move) (sym k) other) e in
      let v = are.writes index entry at k in
      write_found (λ x. x.number ≡ suc index) has.1 v.0
      (record { index = index; entry = entry; at = at; kind = k; writes = v.1; tagged = has.2 }) (λ x number reads tag value. number)
  answered_found index entry step at e operation.Move k other = absurd (other refl)

  -- so the entries are atomic
  pub tagged_atomic : IsAtomic entries
  tagged_atomic = (
    numbers found,
    sequence_of_whole found (record {
      items = sequence_items entries tags are;
      ordered = sequence_ordered entries tags are;
      answered = λ index entry step at e other. answered_found index entry step at e entry.kind refl other;
      written = all_weaker (IsItemOf entries tags)
          (λ r. r.reads ≡ 1 → HasWritten entries tags r.tag r.value → Some_of (Wrote r) found)
          (λ r ir one w. write_found (Wrote r) r.tag r.value w (λ x number reads tag value. (reads, tag, value))) found
          (sequence_items entries tags are);
    }),
  )
