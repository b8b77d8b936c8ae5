-- The list that the tags give is a sequence of a legal record's entries.
use Rattle.std.proofs.Common.{nat_eq, eqb-true, ◌≡◌, ℕ, suc, ◌<◌, ◌⊎◌, true, false, List, [], ◌∷◌}
use Rattle.std.proofs.Common.{Option, Some, IsSome, refl, sym, subst, subst₂, ap, ◌∙◌, inl, inr, ap₂, arith, slice_get}
use Rattle.std.proofs.lemmas.Bool.{or_cases}
use Rattle.std.proofs.lemmas.Option.{same_Some}
use Rattle.std.specs.List.{AllByRecursion}
use Rattle.tag.specs.declared.tag.Tag.{Tag}
use Rattle.tag.specs.Tag.{IsBelow}
use Rattle.layout.specs.Quorum.{has}
use Rattle.record.specs.declared.call.CallKind.{CallKind}
use Rattle.record.specs.declared.call.CallKind.TheVariants.{Write}
use Rattle.record.specs.declared.call.Operation.{Operation}
use Rattle.record.specs.declared.call.TaggedCall.{TaggedCall}
use Rattle.record.specs.Records.{Call, Object}
use Rattle.record.specs.Legal.{is_move, IsLegal}
use Rattle.atomicity.specs.Atomic.{IsSequence}
use Rattle.record.specs.Journals.{tag_of, operation_of, IsWritten, ReadsJournaled, entries}
use Rattle.record.specs.Fragments.{Code, Determines}
use Rattle.soundness.specs.Sound.{IsSound}
use Rattle.atomicity.specs.Sequence.{IsTagged, IsListed, ComesBefore, Precedes, AreInTagOrder, tagged_call, tagged_calls, IsTagSequence}
use Rattle.record.specs.declared.call.Operation.TheVariants as operation
use Rattle.atomicity.proofs.Orders.OrderedItemLemmas.{Item, Before, IsOrdered, Some_of, Wrote}
use Rattle.atomicity.proofs.Sequences.AnsweredTagLemmas.{answered_facts}
use Rattle.atomicity.proofs.Sequences.ItemSequenceLemmas.{IsWholeSequence, sequence_of_items}
use Rattle.atomicity.proofs.Sequences.ListedCallLemmas.{all_of_has, some_weaker, Made, make_item, made, made_numbers, made_all, made_items}
use Rattle.atomicity.proofs.Sequences.ObjectItemLemmas.{Does, IsItem, same_call}
use Rattle.atomicity.proofs.Sequences.TaggedCallLemmas.{found, tagged_of, moves_not}
use Rattle.soundness.proofs.Values.ReadValueLemmas.{reads_journaled}

-- an item reads or writes as the call does
abbrev ReadsAs : Operation → (reads : ℕ) → Type 0
ReadsAs op reads = ((op ≡ operation.Write) × (reads ≡ 0)) ⊎ ((op ≡ operation.Read) × (reads ≡ 1))

-- a tagged call is the item of its number
record Fits (x : Item) (call : TaggedCall) (tag : Tag) : Type 0 where
  same_tag : x.tag ≡ tag
  called : x.called ≡ call.called
  reads : ReadsAs call.kind x.reads

reads_as : (x : Item) (kind : CallKind) (answered : Option ℕ) (settled : Option (List ℕ)) → Does x kind answered settled →
    ReadsAs (operation_of kind) x.reads
reads_as x kind answered settled known = grind arith

fits_item : (object : Object) (x : Item) → IsItem object x → (call : TaggedCall) (tag : Tag) →
    IsTagged (tagged_calls object) x.number call tag → Fits x call tag
fits_item object x ix call tag tagged =
    let f = found object x.number call tag tagged in
    let place : ix.index ≡ f.index = (let a = ix.number in let b = f.numbered in omega arith) in
    let one = same_call object ix.index f.index ix.call f.call ix.at f.at place in
    record {
      same_tag = same_Some x.tag tag (sym ix.tagged ∙ ap₂ (λ i c. tag_of object i c) place one ∙ f.tagged);
      called = ix.called ∙ ap (λ (c : Call). c.called) one ∙ ap (λ (c : TaggedCall). c.called) f.same;
      reads = subst (λ op. ReadsAs op x.reads)
          (ap (λ (c : Call). operation_of c.kind) one ∙ ap (λ (c : TaggedCall). c.kind) f.same)
          (reads_as x ix.call.kind ix.call.answered ix.call.settled ix.what);
    }

-- a write before a read, or by call step
within : (p q : Operation) (rx ry cx cy a b : ℕ) → cx ≡ a → cy ≡ b →
    ((p ≡ operation.Write) × (q ≡ operation.Read)) ⊎ ((p ≡ q) × (a < b)) → ReadsAs p rx → ReadsAs q ry →
    (rx < ry) ⊎ ((rx ≡ ry) × (cx < cy))
within p q rx ry cx cy a b ea eb w known given = grind arith

precedes_before : (object : Object) (x y : Item) → IsItem object x → IsItem object y →
    Precedes (tagged_calls object) x.number y.number → Before x y
precedes_before object x y ix iy p = go p.comes_before
  where
    fx : Fits x p.first p.first_tag
    fx = fits_item object x ix p.first p.first_tag p.first_tagged

    fy : Fits y p.second p.second_tag
    fy = fits_item object y iy p.second p.second_tag p.second_tagged

    go : ComesBefore p.first_tag p.first p.second_tag p.second → Before x y
    go (inl below) =
        let b : IsBelow x.tag y.tag = subst₂ IsBelow (sym fx.same_tag) (sym fy.same_tag) below in
        grind arith
    go (inr same) =
        let tags : x.tag ≡ y.tag = fx.same_tag ∙ same.0 ∙ sym fy.same_tag in
        let n : x.tag.number ≡ y.tag.number = ap (λ (t : Tag). t.number) tags in
        let c : x.tag.call ≡ y.tag.call = ap (λ (t : Tag). t.call) tags in
        inr (
          n,
          inr (
            c,
            within p.first.kind p.second.kind x.reads y.reads x.called y.called p.first.called p.second.called
                fx.called fy.called same.1 fx.reads fy.reads,
          ),
        )

made_ordered : (object : Object) (order : List ℕ) (all : AllByRecursion (Made object) order) →
    AreInTagOrder (tagged_calls object) order → IsOrdered (made object order all)
made_ordered object [] all ordered = tt
made_ordered object (n ∷ ns) all ordered = (
  made_all object (Precedes (tagged_calls object) n) (Before all.0.0)
      (λ y iy p. precedes_before object all.0.0 y all.0.1 iy (subst (λ m. Precedes (tagged_calls object) m y.number) (sym all.0.2) p))
      ns all.1 ordered.0,
  made_ordered object ns all.1 ordered.1,
)

made_some : (object : Object) (order : List ℕ) (all : AllByRecursion (Made object) order) (number : ℕ) → has order number ≡ true →
    Some_of (λ x. IsItem object x × (x.number ≡ number)) (made object order all)
made_some object [] all number h = absurd (cc)
made_some object (n ∷ ns) all number h =
    go (or_cases (nat_eq n number) (has ns number) h) (λ there. made_some object ns all.1 number there)
  where
    go : (nat_eq n number ≡ true) ⊎ (has ns number ≡ true) →
        (has ns number ≡ true → Some_of (λ x. IsItem object x × (x.number ≡ number)) (made object ns all.1)) →
        Some_of (λ x. IsItem object x × (x.number ≡ number)) (made object (n ∷ ns) all)
    go (inl here) later = inl (all.0.1, all.0.2 ∙ eqb-true n number here)
    go (inr there) later = inr (later there)

-- an answered read or write is listed
answered_listed : (object : Object) → IsLegal object → (index : ℕ) (call : Call) (step : ℕ) →
    slice_get object.calls index ≡ Some call → call.answered ≡ Some step → is_move call.kind ≡ false →
    IsListed (tagged_calls object) (suc index)
answered_listed object legal index call step at e stands =
    let fin = answered_facts object legal index call at stands step e in
    record {
      call = tagged_call object index call;
      tag = fin.3.tag;
      tagged = tagged_of object index call fin.3.tag at (moves_not call.kind stands) fin.3.tagged;
      reason = inl (subst IsSome (sym e) refl);
    }

-- the write whose tag and value an answered read has is listed
write_listed : (object : Object) (r : Item) → IsItem object r → r.reads ≡ 1 → (w : IsWritten object r.tag r.value) →
    IsListed (tagged_calls object) (suc w.index)
write_listed object r ir reads w = go ir.what
  where
    go : Does r ir.call.kind ir.call.answered ir.call.settled → IsListed (tagged_calls object) (suc w.index)
    go (inl writes) = absurd (let zero_is = writes.0 in omega arith)
    go (inr read) =
        record {
          call = tagged_call object w.index w.call;
          tag = r.tag;
          tagged = tagged_of object w.index w.call r.tag w.at (moves_not w.call.kind (ap is_move w.kind)) w.tagged;
          reason = inr (
            ap operation_of w.kind,
            record {
              number = suc ir.index;
              call = tagged_call object ir.index ir.call;
              tagged = tagged_of object ir.index ir.call r.tag ir.at (moves_not ir.call.kind (ap is_move read.1)) ir.tagged;
              reads = ap operation_of read.1;
              answered = subst IsSome (sym read.3) refl;
            },
          );
        }

-- the item of that write is the write that the read returned
item_wrote : (object : Object) (r : Item) (w : IsWritten object r.tag r.value) (x : Item) → IsItem object x →
    x.number ≡ suc w.index → Wrote r x
item_wrote object r w x ix e = grind arith

-- the list that the tags give is a sequence of the entries
pub sequence_of_tags : (object : Object) → IsLegal object → ReadsJournaled object → (order : List ℕ) →
    IsTagSequence object order → IsSequence (entries object) order
sequence_of_tags object legal journaled order tags =
    let all = all_of_has (Made object) order (λ n h. make_item object journaled n ((tags.exactly n).0 h)) in
    let xs = made object order all in
    let whole : IsWholeSequence object xs = record {
      items = made_items object order all;
      ordered = made_ordered object order all tags.ordered;
      answered = λ index call step at e stands.
          some_weaker (λ x. IsItem object x × (x.number ≡ suc index)) (λ x. x.number ≡ suc index) (λ x p. p.1) xs
          (made_some object order all (suc index)
          ((tags.exactly (suc index)).1 (answered_listed object legal index call step at e stands)));
      written = λ r ir reads w.
          some_weaker (λ x. IsItem object x × (x.number ≡ suc w.index)) (Wrote r) (λ x p. item_wrote object r w x p.0 p.1) xs
          (made_some object order all (suc w.index) ((tags.exactly (suc w.index)).1 (write_listed object r ir reads w)));
    } in
    subst (IsSequence (entries object)) (made_numbers object order all) (sequence_of_items object legal journaled xs whole)

-- so it is one for each sound record
pub sequence_of_sound : (fragment : Code) (object : Object) (step : ℕ) → Determines fragment → IsSound fragment object step →
    (order : List ℕ) → IsTagSequence object order → IsSequence (entries object) order
sequence_of_sound fragment object step determines sound order tags =
    sequence_of_tags object sound.legal
    (reads_journaled fragment object determines sound.legal sound.values sound.coded sound.settled) order tags
