-- The positions that a node has heard of: one is found, changed or added, and the last of them.
use Rattle.std.proofs.Common.{◌≡◌, ℕ, zero, suc, ◌<◌, Bool, true, false, cond, eqb, ltb, List, [], ◌∷◌, ◌++◌, slice_get, take, is_some}
use Rattle.std.proofs.Common.{Option, Some, None, IsSome, MatchOption, length, get_or, set, refl, sym, subst, ap, ◌∙◌, eq-eqb, arith}
use Rattle.std.specs.List.{position}
use Rattle.std.proofs.lemmas.Bool.{false≢true}
use Rattle.std.proofs.lemmas.Option.{get_or_from_slice_get}
use Rattle.local_object.specs.declared.kept_bank.KeptBank.{KeptBank}
use Rattle.local_object.specs.Local.{Place, heard_place, with_bank_here, bank_in, layout_in, greatest_position}
use Rattle.local_object.specs.Distinct.{IsPlaceAt}
use Rattle.local_object.proofs.FoundLemmas.{FailsBelow, element, first_of}

same_place : (a b : Place) → Some a ≡ Some b → a ≡ b
same_place a b e = cc

found_there : (number : ℕ) (places : List Place) (i : ℕ) (place : Place) → slice_get places i ≡ Some place
    → eqb place.position number ≡ true → FailsBelow (λ (p : Place). eqb p.position number) places i → IsPlaceAt places number i
found_there number [] i place at is before = absurd (cc)
found_there number (p ∷ ps) zero place at is before =
    let same = same_place p place at in
    let test : eqb p.position number ≡ true = ap (λ (p : Place). eqb p.position number) same ∙ is in record {
      place = p;
      there = refl;
      found = ap (λ b. cond b (Some p) (heard_place ps number)) test;
      changed = λ bank. ap (λ b. cond b (record p { bank = bank } ∷ ps) (p ∷ with_bank_here ps number bank)) test;
    }
found_there number (p ∷ ps) (suc i) place at is before =
    let rest = found_there number ps i place at is (λ k d h. before (suc k) d (omega arith)) in
    let test : eqb p.position number ≡ false = before 0 p (omega arith) in record {
      place = rest.place;
      there = rest.there;
      found = ap (λ b. cond b (Some p) (heard_place ps number)) test ∙ rest.found;
      changed = λ bank. ap (λ b. cond b (record p { bank = bank } ∷ ps) (p ∷ with_bank_here ps number bank)) test
          ∙ ap (λ ps. p ∷ ps) (rest.changed bank);
    }

found_nowhere : (number : ℕ) (places : List Place) → FailsBelow (λ (p : Place). eqb p.position number) places (length places)
    → heard_place places number ≡ None
found_nowhere number [] none = refl
found_nowhere number (p ∷ ps) none =
    let test : eqb p.position number ≡ false = none 0 p (omega arith) in
    ap (λ b. cond b (Some p) (heard_place ps number)) test ∙ found_nowhere number ps (λ k d h. none (suc k) d (omega arith))

-- what a search by position found
pub at_index : (number : ℕ) (places : List Place) (o : Option ℕ) → o ≡ position (λ (p : Place). eqb p.position number) places
    → MatchOption o (heard_place places number ≡ None) (IsPlaceAt places number)
at_index number places None is = found_nowhere number places (first_of (λ (p : Place). eqb p.position number) places None is)
at_index number places (Some i) is =
    let first = first_of (λ (p : Place). eqb p.position number) places (Some i) is in
    let there = element places i first.within in
    found_there number places i there.0 there.1
    (ap (λ (p : Place). eqb p.position number) (sym (get_or_from_slice_get places i there.0 there.0 there.1)) ∙ first.passes there.0)
    first.before

-- Position 0 stays known

pub known_push : (number : ℕ) (places : List Place) (place : Place) → IsSome (heard_place places number)
    → IsSome (heard_place (places ++ place ∷ []) number)
known_push number [] place known = absurd (false≢true known)
known_push number (p ∷ ps) place known = go (eqb p.position number) known (λ rest. known_push number ps place rest)
  where
    go : (b : Bool) → IsSome (cond b (Some p) (heard_place ps number))
        → (IsSome (heard_place ps number) → IsSome (heard_place (ps ++ place ∷ []) number))
        → IsSome (cond b (Some p) (heard_place (ps ++ place ∷ []) number))
    go true known rest = known
    go false known rest = rest known

-- The last position

-- a position that is the greatest of some is one of them, or the one that was given
pub greatest_known : (places : List Place) (greatest : ℕ) (all : List Place) → IsSome (layout_in (heard_place all greatest))
    → ((p : Place) (i : ℕ) → slice_get places i ≡ Some p → IsSome (layout_in (heard_place all p.position)))
    → IsSome (layout_in (heard_place all (greatest_position places greatest)))
greatest_known [] greatest all known each = known
greatest_known (p ∷ ps) greatest all known each =
    greatest_known ps (cond (ltb greatest p.position) p.position greatest) all (go (ltb greatest p.position))
    (λ q i at. each q (suc i) at)
  where
    go : (b : Bool) → IsSome (layout_in (heard_place all (cond b p.position greatest)))
    go true = each p 0 refl
    go false = known

-- each position of a list is found in it
pub each_known : (places : List Place) (p : Place) (i : ℕ) → slice_get places i ≡ Some p →
    IsSome (layout_in (heard_place places p.position))
each_known [] p i at = absurd (cc)
each_known (q ∷ qs) p zero at =
    ap (λ b. is_some (layout_in (cond b (Some q) (heard_place qs p.position))))
    (eq-eqb q.position p.position (ap (λ (p : Place). p.position) (same_place q p at)))
each_known (q ∷ qs) p (suc i) at = go (eqb q.position p.position) (each_known qs p i at)
  where
    go : (b : Bool) → IsSome (layout_in (heard_place qs p.position)) → IsSome (layout_in (cond b (Some q) (heard_place qs p.position)))
    go true rest = refl
    go false rest = rest

pub layout_known : (o : Option Place) → IsSome o → IsSome (layout_in o)
layout_known None known = known
layout_known (Some place) known = refl

pub place_known : (o : Option Place) → IsSome (layout_in o) → IsSome o
place_known None known = known
place_known (Some place) known = refl

pub known_pushed : (places : List Place) (place : Place) (number : ℕ) → IsSome (layout_in (heard_place places number))
    → IsSome (layout_in (heard_place (places ++ place ∷ []) number))
known_pushed places place number known =
    layout_known (heard_place (places ++ place ∷ []) number)
    (known_push number places place (place_known (heard_place places number) known))

pub known_set : (number : ℕ) (places : List Place) (i : ℕ) (old new : Place) → slice_get places i ≡ Some old → new.position ≡ old.position
    → IsSome (heard_place places number) → IsSome (heard_place (set places i new) number)
known_set number [] i old new at same known = absurd (false≢true known)
known_set number (p ∷ ps) zero old new at same known =
    go (eqb p.position number)
    (ap (λ k. eqb k number) (same ∙ ap (λ (p : Place). p.position) (sym (same_place p old at)))) known
  where
    go : (b : Bool) → eqb new.position number ≡ b → IsSome (cond b (Some p) (heard_place ps number))
        → IsSome (cond (eqb new.position number) (Some new) (heard_place ps number))
    go true t known = subst (λ b. IsSome (cond b (Some new) (heard_place ps number))) (sym t) refl
    go false t known = subst (λ b. IsSome (cond b (Some new) (heard_place ps number))) (sym t) known
known_set number (p ∷ ps) (suc i) old new at same known =
    go (eqb p.position number) known (λ rest. known_set number ps i old new at same rest)
  where
    go : (b : Bool) → IsSome (cond b (Some p) (heard_place ps number))
        → (IsSome (heard_place ps number) → IsSome (heard_place (set ps i new) number))
        → IsSome (cond b (Some p) (heard_place (set ps i new) number))
    go true known rest = refl
    go false known rest = rest known

-- one more position
pub greatest_more : (places : List Place) (i greatest : ℕ) (p : Place) → i < length places → p ≡ get_or places i p
    → greatest_position (take (suc i) places) greatest
    ≡ cond (ltb (greatest_position (take i places) greatest) p.position) p.position (greatest_position (take i places) greatest)
greatest_more [] i greatest p within is = absurd (omega (arith, within))
greatest_more (q ∷ qs) zero greatest p within is = ap (λ (p : Place). cond (ltb greatest p.position) p.position greatest) (sym is)
greatest_more (q ∷ qs) (suc i) greatest p within is =
    greatest_more qs i (cond (ltb greatest q.position) q.position greatest) p (omega (arith, within)) is

-- what a function reads at an index where a search found a position
pub read_at : (listed items old : List Place) (number i : ℕ) (read : Place) → listed ≡ items → items ≡ old → IsPlaceAt listed number i
    → read ≡ get_or items i read → heard_place old number ≡ Some read
read_at listed items old number i read same view at is =
    ap (λ (ps : List Place). heard_place ps number) (sym (same ∙ view)) ∙ at.found
    ∙ ap Some (sym (is ∙ ap (λ (ps : List Place). get_or ps i read) (sym same) ∙ get_or_from_slice_get listed i at.place read at.there))

pub unread : (listed items old : List Place) (number : ℕ) → listed ≡ items → items ≡ old → heard_place listed number ≡ None
    → heard_place old number ≡ None
unread listed items old number same view none = ap (λ (ps : List Place). heard_place ps number) (sym (same ∙ view)) ∙ none

module _ {listed items old : List Place} {number i : ℕ} {read : Place} (same : listed ≡ items) (view : items ≡ old)
    (at : IsPlaceAt listed number i) (is : read ≡ get_or items i read) where
  read_is : read ≡ at.place
  read_is = is ∙ ap (λ (ps : List Place). get_or ps i read) (sym same) ∙ get_or_from_slice_get listed i at.place read at.there

  pub there_at : slice_get items i ≡ Some read
  there_at = ap (λ (ps : List Place). slice_get ps i) (sym same) ∙ at.there ∙ ap Some (sym read_is)

  pub bank_is : read.bank ≡ bank_in (heard_place old number)
  bank_is = sym (ap bank_in (read_at listed items old number i read same view at is))

  -- the bank that is put there
  pub bank_put : (f : Option KeptBank → Option KeptBank) (new : Place) → new ≡ record read { bank = f read.bank }
      → set items i new ≡ with_bank_here old number (f (bank_in (heard_place old number)))
  bank_put f new made =
      ap (set items i) (made ∙ ap (λ (p : Place). record p { bank = f p.bank }) read_is)
      ∙ ap (λ (ps : List Place). set ps i (record at.place { bank = f at.place.bank })) (sym same)
      ∙ sym (at.changed (f at.place.bank))
      ∙ ap (λ (ps : List Place). with_bank_here ps number (f at.place.bank)) (same ∙ view)
      ∙ ap (λ o. with_bank_here old number (f o)) (ap (λ (p : Place). p.bank) (sym read_is) ∙ bank_is)

-- a bank changes no layout
pub layout_bank : (places : List Place) (n : ℕ) (bank : Option KeptBank) (m : ℕ)
    → layout_in (heard_place (with_bank_here places n bank) m) ≡ layout_in (heard_place places m)
layout_bank [] n bank m = refl
layout_bank (p ∷ ps) n bank m = go (eqb p.position n) (eqb p.position m) refl (layout_bank ps n bank m)
  where
    go : (a b : Bool) → eqb p.position m ≡ b → layout_in (heard_place (with_bank_here ps n bank) m) ≡ layout_in (heard_place ps m)
        → layout_in (heard_place (cond a (record p { bank = bank } ∷ ps) (p ∷ with_bank_here ps n bank)) m)
        ≡ layout_in (cond b (Some p) (heard_place ps m))
    go true true t rest = ap (λ b. layout_in (cond b (Some (record p { bank = bank })) (heard_place ps m))) t
    go true false t rest = ap (λ b. layout_in (cond b (Some (record p { bank = bank })) (heard_place ps m))) t
    go false true t rest = ap (λ b. layout_in (cond b (Some p) (heard_place (with_bank_here ps n bank) m))) t
    go false false t rest = ap (λ b. layout_in (cond b (Some p) (heard_place (with_bank_here ps n bank) m))) t ∙ rest
