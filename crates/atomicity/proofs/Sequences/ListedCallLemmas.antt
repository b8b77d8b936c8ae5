-- The calls that are listed are the items of the object.
use Rattle.std.proofs.Common.{nat_eq, ◌≡◌, ℕ, ◌⊎◌, true, List, [], ◌∷◌}
use Rattle.std.proofs.Common.{refl, sym, subst, ap, ◌∙◌, inl, inr, ap₂, eq-eqb, IsTrue}
use Rattle.std.proofs.lemmas.Bool.{or_left, or_right}
use Rattle.std.specs.List.{AllByRecursion}
use Rattle.layout.specs.Quorum.{has}
use Rattle.record.specs.declared.call.CallKind.{CallKind}
use Rattle.record.specs.declared.call.CallKind.TheVariants.{Read, Write, Move}
use Rattle.record.specs.declared.call.TaggedCall.{TaggedCall}
use Rattle.record.specs.Records.{Object}
use Rattle.record.specs.Journals.{operation_of, ReadsJournaled, entry_of}
use Rattle.atomicity.specs.Sequence.{IsReturned, IsListed, tagged_calls}
use Rattle.record.specs.declared.call.Operation.TheVariants as operation
use Rattle.atomicity.proofs.Orders.ItemSortLemmas.{numbers}
use Rattle.atomicity.proofs.Orders.OrderedItemLemmas.{Item, Some_of}
use Rattle.atomicity.proofs.Sequences.ItemEntryLemmas.{some_step}
use Rattle.atomicity.proofs.Sequences.ObjectItemLemmas.{IsItem}
use Rattle.atomicity.proofs.Sequences.TaggedCallLemmas.{Found, found}

-- a property of each number that is in a list holds of all elements of the list
pub all_of_has : (P : ℕ → Type 0) (xs : List ℕ) → ((n : ℕ) → has xs n ≡ true → P n) → AllByRecursion P xs
all_of_has P [] f = tt
all_of_has P (x ∷ xs) f =
    (f x (or_left (nat_eq x x) (has xs x) (eq-eqb x x refl)), all_of_has P xs (λ n h. f n (or_right (nat_eq x n) (has xs n) h)))

pub some_weaker : (P Q : Item → Type 0) → ((x : Item) → P x → Q x) → (xs : List Item) → Some_of P xs → Some_of Q xs
some_weaker P Q f [] some = absurd some
some_weaker P Q f (x ∷ xs) (inl here) = inl (f x here)
some_weaker P Q f (x ∷ xs) (inr there) = inr (some_weaker P Q f xs there)

-- the item of a call that is listed
abbrev pub Made : Object → ℕ → Type 0
Made object number = (x : Item) × IsItem object x × (x.number ≡ number)

pub make_item : (object : Object) → ReadsJournaled object → (number : ℕ) →
    IsListed (tagged_calls object) number → Made object number
make_item object journaled number listed = go f.call.kind refl listed.reason
  where
    f : Found object number listed.call listed.tag
    f = found object number listed.call listed.tag listed.tagged

    does : operation_of f.call.kind ≡ listed.call.kind
    does = ap (λ (c : TaggedCall). c.kind) f.same

    go : (kind : CallKind) → f.call.kind ≡ kind →
        IsTrue listed.call.is_answered ⊎ ((listed.call.kind ≡ operation.Write) × IsReturned (tagged_calls object) listed.tag) →
        Made object number
    go Read k (inl answered) =
        let step = some_step f.call.answered (ap (λ (c : TaggedCall). c.is_answered) f.same ∙ answered) in
        let j = journaled f.index f.call step.0 f.at k step.1 in (
          record {
            number = number;
            tag = listed.tag;
            reads = 1;
            called = f.call.called;
            value = j.0;
            entry = entry_of f.call.id f.call;
          },
          record {
            index = f.index;
            call = f.call;
            at = f.at;
            number = f.numbered;
            tagged = f.tagged;
            called = refl;
            entry = refl;
            what = inr (refl, k, step.0, step.1, j.2);
          },
          refl,
        )
    go Read k (inr unanswered) =
        absurd (let clash : operation.Read ≡ operation.Write = sym (ap operation_of k) ∙ does ∙ unanswered.0 in cc)
    go (Write value) k reason = (
      record { number = number; tag = listed.tag; reads = 0; called = f.call.called; value = value; entry = entry_of f.call.id f.call },
      record {
        index = f.index;
        call = f.call;
        at = f.at;
        number = f.numbered;
        tagged = f.tagged;
        called = refl;
        entry = refl;
        what = inl (refl, k);
      },
      refl,
    )
    go Move k reason = absurd (listed.tagged.no_move (sym does ∙ ap operation_of k))

-- the items of a list of calls
abbrev pub made : (object : Object) (order : List ℕ) → AllByRecursion (Made object) order → List Item
made object [] all = []
made object (n ∷ ns) all = all.0.0 ∷ made object ns all.1

pub made_numbers : (object : Object) (order : List ℕ) (all : AllByRecursion (Made object) order) →
    numbers (made object order all) ≡ order
made_numbers object [] all = refl
made_numbers object (n ∷ ns) all = ap₂ (λ m ms. m ∷ ms) all.0.2 (made_numbers object ns all.1)

pub made_all : (object : Object) (P : ℕ → Type 0) (Q : Item → Type 0) → ((x : Item) → IsItem object x → P x.number → Q x) →
    (order : List ℕ) (all : AllByRecursion (Made object) order) →
    AllByRecursion P order → AllByRecursion Q (made object order all)
made_all object P Q f [] all holds = tt
made_all object P Q f (n ∷ ns) all holds = (f all.0.0 all.0.1 (subst P (sym all.0.2) holds.0), made_all object P Q f ns all.1 holds.1)

pub made_items : (object : Object) (order : List ℕ) (all : AllByRecursion (Made object) order) →
    AllByRecursion (IsItem object) (made object order all)
made_items object [] all = tt
made_items object (n ∷ ns) all = (all.0.1, made_items object ns all.1)
