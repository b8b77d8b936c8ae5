-- A list of all items of an object, in the order of their tags, is a sequence of its entries.
use Rattle.std.proofs.Common.{◌≡◌, ℕ, suc, ◌≢◌, false, List, Some, sym, subst, ap, ◌∙◌, slice_get}
use Rattle.std.proofs.lemmas.Option.{same_Some}
use Rattle.std.specs.List.{AllByRecursion}
use Rattle.tag.specs.declared.tag.Tag.{Tag}
use Rattle.record.specs.declared.call.Entry.{Entry}
use Rattle.record.specs.declared.call.Operation.TheVariants as operation
use Rattle.record.specs.Journals.{IsWritten, ReadsJournaled, entries}
use Rattle.record.specs.Legal.{is_move, IsLegal}
use Rattle.record.specs.Records.{Call, Object}
use Rattle.soundness.proofs.ListLemmas.{all_weaker}
use Rattle.atomicity.specs.Atomic.{IsSequence, IsAtomic}
use Rattle.atomicity.proofs.Orders.ItemSortLemmas.{numbers}
use Rattle.atomicity.proofs.Orders.OrderedItemLemmas.{Item, IsOrdered, Some_of, Wrote}
use Rattle.atomicity.proofs.Sequences.EntryItemLemmas.{AreTagged, HasWritten, IsItemOf}
use Rattle.atomicity.proofs.Sequences.EntrySequenceLemmas.{sequence_of_whole, tagged_atomic}
use Rattle.atomicity.proofs.Sequences.ItemEntryLemmas.{entry_call, stays}
use Rattle.atomicity.proofs.Sequences.ObjectItemLemmas.{IsItem, entry_item}
use Rattle.atomicity.proofs.Sequences.SeenCallLemmas.{entry_written, record_seen, recorded_tags, seen_tagged}

-- items in order, that have each answered read or write, and the write of each read that returns a written value
pub record IsWholeSequence (object : Object) (xs : List Item) : Type 0 where
  pub items : AllByRecursion (IsItem object) xs
  pub ordered : IsOrdered xs
  pub answered : (index : ℕ) (call : Call) (step : ℕ) → slice_get object.calls index ≡ Some call → call.answered ≡ Some step →
      is_move call.kind ≡ false → Some_of (λ x. x.number ≡ suc index) xs
  pub written : (r : Item) → IsItem object r → r.reads ≡ 1 → IsWritten object r.tag r.value → Some_of (Wrote r) xs

-- the tags of a legal record order its entries as one register
record_tagged : (object : Object) → IsLegal object → ReadsJournaled object → AreTagged (entries object) (recorded_tags object)
record_tagged object legal journaled =
    seen_tagged object legal (entries object) (recorded_tags object) (record_seen object legal journaled)

-- such items are a sequence of the entries
pub sequence_of_items : (object : Object) → IsLegal object → ReadsJournaled object → (xs : List Item) → IsWholeSequence object xs →
    IsSequence (entries object) (numbers xs)
sequence_of_items object legal journaled xs whole =
    sequence_of_whole (entries object) (recorded_tags object) (record_tagged object legal journaled) xs (record {
      items = all_weaker (IsItem object) (IsItemOf (entries object) (recorded_tags object)) (λ x ix. entry_item object x ix) xs whole.items;
      ordered = whole.ordered;
      answered = λ index entry step at e stands.
          let call = entry_call object index entry at in
          whole.answered index call.0 step call.1 (ap (λ (y : Entry). y.answered) call.2 ∙ e)
          (stays call.0.kind (subst (λ (y : Entry). y.kind ≢ operation.Move) (sym call.2) stands));
      written = all_weaker (IsItem object)
          (λ r. r.reads ≡ 1 → HasWritten (entries object) (recorded_tags object) r.tag r.value → Some_of (Wrote r) xs)
          (λ r ir reads w. whole.written r ir reads (written r.tag r.value w)) xs whole.items;
    })
  where
    written : (tag : Tag) (value : List ℕ) → HasWritten (entries object) (recorded_tags object) tag value → IsWritten object tag value
    written tag value w =
        let v = entry_written object legal (entries object) (recorded_tags object) (record_seen object legal journaled) w.index w.entry
        tag w.at w.kind w.tagged in
        subst (λ u. IsWritten object tag u) (same_Some v.0 value (sym v.3 ∙ w.writes)) v.1

-- a legal record is atomic
pub atomic_of_legal : (object : Object) → IsLegal object → ReadsJournaled object → IsAtomic (entries object)
atomic_of_legal object legal journaled =
    tagged_atomic (entries object) (recorded_tags object) (record_tagged object legal journaled)
