-- The items of an object: its calls that stand in a sequence.
use Rattle.std.proofs.Common.{◌≡◌, ℕ, suc, ◌⊎◌, List, Option, Some}
use Rattle.std.proofs.Common.{sym, ap, ◌∙◌, inl, inr, arith, slice_get}
use Rattle.std.proofs.lemmas.Option.{same_Some}
use Rattle.record.specs.declared.call.CallKind.{CallKind}
use Rattle.record.specs.Records.{Call, Object}
use Rattle.record.specs.declared.call.CallKind.TheVariants.{Read, Write}
use Rattle.record.specs.declared.call.Entry.{Entry}
use Rattle.record.specs.Journals.{entries, tag_of, entry_of}
use Rattle.atomicity.proofs.Orders.OrderedItemLemmas.{Item, IsKept}
use Rattle.atomicity.proofs.Sequences.EntryItemLemmas.{IsItemOf}
use Rattle.atomicity.proofs.Sequences.ItemEntryLemmas.{entry_there}
use Rattle.atomicity.proofs.Sequences.SeenCallLemmas.{recorded_tag, recorded_tags}

-- a write with its value, or an answered read with what it settled
abbrev pub Does : Item → CallKind → (answered : Option ℕ) → (settled : Option (List ℕ)) → Type 0
Does x kind answered settled =
    ((x.reads ≡ 0) × (kind ≡ Write x.value))
    ⊎ ((x.reads ≡ 1) × (kind ≡ Read) × (step : ℕ) × (answered ≡ Some step) × (settled ≡ Some x.value))

-- an item is a call of the object
pub record IsItem (object : Object) (x : Item) : Type 0 where
  pub index : ℕ
  pub call : Call
  pub at : slice_get object.calls index ≡ Some call
  pub number : x.number ≡ suc index
  pub tagged : tag_of object index call ≡ Some x.tag
  pub called : x.called ≡ call.called
  pub entry : x.entry ≡ entry_of call.id call
  pub what : Does x call.kind call.answered call.settled

pub kept_item : (object : Object) (x : Item) → IsItem object x → IsKept x
kept_item object x is = grind arith

-- one number is one call
pub same_call : (object : Object) (i j : ℕ) (a b : Call) → slice_get object.calls i ≡ Some a →
    slice_get object.calls j ≡ Some b → i ≡ j → a ≡ b
same_call object i j a b p q e = same_Some a b (sym p ∙ ap (λ k. slice_get object.calls k) e ∙ q)

-- an item of the object is one of its entries
pub entry_item : (object : Object) (x : Item) → IsItem object x → IsItemOf (entries object) (recorded_tags object) x
entry_item object x ix = record {
  index = ix.index;
  at = entry_there object ix.index ix.call ix.at ∙ ap Some (sym ix.entry);
  number = ix.number;
  tagged = ap (λ o. recorded_tag object ix.index o) ix.at ∙ ix.tagged;
  called = ix.called ∙ sym (ap (λ (e : Entry). e.called) ix.entry);
  kept = kept_item object x ix;
  answered = λ one. go one ix.what;
}
  where
    go : x.reads ≡ 1 → Does x ix.call.kind ix.call.answered ix.call.settled → (step : ℕ) × (x.entry.answered ≡ Some step)
    go one (inl writes) = absurd (let none = writes.0 in omega arith)
    go one (inr read) = (read.2, ap (λ (e : Entry). e.answered) ix.entry ∙ read.3)
