-- The letters to all places of an object lead a copy to its banks.
use Rattle.std.proofs.Common.{◌≡◌, ℕ, Bool, true, false, cond, eqb, eqb-true, eq-eqb, List, [], ◌∷◌, ◌++◌, length, map, get_or}
use Rattle.std.proofs.Common.{Option, Some, None, MatchOption, slice_get, refl, sym, subst, ap, ◌∙◌}
use Rattle.std.specs.List.{AllByRecursion, position}
use Rattle.std.proofs.lemmas.Option.{get_or_from_slice_get, slice_get_within}
use Rattle.layout.specs.Layout.{Layout, IsLawful}
use Rattle.bank.specs.Bank.{opened_bank}
use Rattle.closed_bank.specs.Restore.{requests_to_closed}
use Rattle.local_object.specs.declared.kept_bank.KeptBank.{KeptBank}
use Rattle.local_object.specs.declared.kept_bank.KeptBank.TheVariants as kept
use Rattle.object_letters.specs.Reached.{after_requests}
use Rattle.object_letters.specs.Requests.{requests_for, requests_to}
use Rattle.object_letters.proofs.LeadingLemmas.{requests_lead}
use Rattle.letter.specs.declared.letter.Letter.{Letter}
use Rattle.local_object.specs.Distinct.{KnowsStart}
use Rattle.local_object.specs.Local.{LocalObject, Place, bank_here, layout_here, layout_in, heard_place}
use Rattle.local_object.proofs.FoundLemmas.{IsFirst, FailsBelow, first_of, element}
use Rattle.local_object.proofs.OneMemberLemmas.{one_member}
use Rattle.open_calls.proofs.CallsOfNodeLemmas.{differs}
use Rattle.object_letters.specs.Letters.{after_letter, after_letters, bank_letters, letter_to, letters_to, place_letters, places_letters}
use Rattle.object_letters.specs.Letters.{start_after}
use Rattle.object_letters.specs.Leading.{HasNextPosition}
use Rattle.object_letters.specs.Laws.{IsBlankOf}
use Rattle.object_letters.specs.Rebuildable.{HaveApartPositions, AreElsewhere, IsOwnIfOpen, IsOwnKept, IsOwnPlace, IsRebuildable}
use Rattle.object_letters.proofs.ServedCopyLemmas.{IsTowards, all_served}
use Rattle.object_letters.proofs.ToldStartLemmas.{start_both}

-- Lists

after_append : (copy : LocalObject) (xs ys : List Letter) → after_letters copy (xs ++ ys) ≡ after_letters (after_letters copy xs) ys
after_append copy [] ys = refl
after_append copy (x ∷ xs) ys = after_append (after_letter copy x) xs ys

all_map : {X : Type 0} {P Q : X → Type 0} → ((x : X) → P x → Q x) → (xs : List X) → AllByRecursion P xs → AllByRecursion Q xs
all_map f [] all = tt
all_map f (x ∷ xs) all = (f x all.0, all_map f xs all.1)

-- the place that is found for a position is one of them
pub at_place : (P : Place → Type 0) (places : List Place) (q : ℕ) (place : Place) → AllByRecursion P places
    → heard_place places q ≡ Some place
    → P place × (place.position ≡ q)
at_place P [] q place all e = absurd (cc)
at_place P (first ∷ places) q place all e = go (eqb first.position q) refl e (λ e. at_place P places q place all.1 e)
  where
    go : (b : Bool) → eqb first.position q ≡ b → cond b (Some first) (heard_place places q) ≡ Some place
        → (heard_place places q ≡ Some place → P place × (place.position ≡ q)) → P place × (place.position ≡ q)
    go true t e rest =
        let same : first ≡ place = cc in
        (subst P same all.0, ap (λ (p : Place). p.position) (sym same) ∙ eqb-true first.position q t)
    go false t e rest = rest e

-- each place is found, where no two have the same position
found_among : (first : Place) (places others : List Place) → AreElsewhere first.position others
    → AllByRecursion (λ place. heard_place places place.position ≡ Some place) others
    → AllByRecursion (λ place. heard_place (first ∷ places) place.position ≡ Some place) others
found_among first places [] elsewhere found = tt
found_among first places (other ∷ others) elsewhere found = (
  ap (λ b. cond b (Some first) (heard_place places other.position)) (differs first.position other.position (λ e. elsewhere.0 (sym e)))
      ∙ found.0,
  found_among first places others elsewhere.1 found.1,
)

pub all_found : (places : List Place) → HaveApartPositions places
    → AllByRecursion (λ place. heard_place places place.position ≡ Some place) places
all_found [] apart = tt
all_found (first ∷ places) apart = (
  ap (λ b. cond b (Some first) (heard_place places first.position)) (eq-eqb first.position first.position refl),
  found_among first places places apart.0 (all_found places apart.1),
)

-- the member that a layout has for a node is the only one
member_found : (layout : Layout) (node member : ℕ) → IsLawful layout → slice_get layout.members member ≡ Some node
    → position (λ server. eqb server node) layout.members ≡ Some member
member_found layout node member lawful named =
    go (position (λ server. eqb server node) layout.members) refl
    (first_of (λ server. eqb server node) layout.members (position (λ server. eqb server node) layout.members) refl)
  where
    go : (o : Option ℕ) → position (λ server. eqb server node) layout.members ≡ o
        → MatchOption o (FailsBelow (λ server. eqb server node) layout.members (length layout.members))
        (IsFirst (λ server. eqb server node) layout.members) → position (λ server. eqb server node) layout.members ≡ Some member
    go None e fails = absurd (
        let within = slice_get_within layout.members member node named in
        let here : get_or layout.members member 0 ≡ node = get_or_from_slice_get layout.members member node 0 named in
        let wrong : false ≡ true = sym (fails member 0 within) ∙ eq-eqb (get_or layout.members member 0) node here in cc)
    go (Some other) e first =
        let there = element layout.members other first.within in
        let is : there.0 ≡ node =
        sym (get_or_from_slice_get layout.members other there.0 0 there.1)
        ∙ eqb-true (get_or layout.members other 0) node (first.passes 0) in
        e ∙ ap (λ (n : ℕ). Some n) (one_member layout other member node lawful (there.1 ∙ ap (λ (n : ℕ). Some n) is) named)

-- One place

-- the bank to which the letters lead, of a place of which this is kept: it is open, and closes to a closed one
abbrev pub led_bank : Option KeptBank → (member : ℕ) → (delta : Option ℕ) → KeptBank
led_bank None member delta = kept.Open (opened_bank member delta 0)
led_bank (Some (kept.Open bank)) member delta = kept.Open bank
led_bank (Some (kept.Closed closed)) member delta = kept.Open (after_requests (opened_bank member delta 0) (requests_to_closed closed))

-- the member that the node is
own_member : (node : ℕ) (delta : Option ℕ) (place : Place) (bank : KeptBank) → IsOwnKept node delta place bank
    → (member : ℕ) × (slice_get place.layout.members member ≡ Some node)
    × (kept.Open (after_requests (opened_bank member delta 0) (requests_for bank)) ≡ led_bank (Some bank) member delta)
own_member node delta place (kept.Open bank) own = (
  own.member,
  own.named,
  ap (λ b. kept.Open b) (ap (λ d. after_requests (opened_bank own.member d 0) (requests_to bank)) (sym own.limited)
      ∙ requests_lead own.member bank own.reached),
)
own_member node delta place (kept.Closed closed) own = (own.0, own.1, refl)

module _ (moves : Type 0) (local : LocalObject) where
  pub record IsPlaced (place : Place) (letters : List Letter) (copy after : LocalObject) : Type 0 where
    pub towards : IsTowards moves local after
    pub start : KnowsStart local.places local.start → after.start ≡ start_after letters copy.start local.start
    pub own : (j : ℕ) → slice_get place.layout.members j ≡ Some local.node
        → bank_here after place.position j ≡ led_bank place.bank j local.delta
    pub others : (q j : ℕ) → (place.position ≡ q → ⊥) → bank_here after q j ≡ bank_here copy q j

  module _ (place : Place) (lawful : IsLawful place.layout) (room : HasNextPosition place)
      (known : layout_here local place.position ≡ Some place.layout) (copy : LocalObject) (towards : IsTowards moves local copy)
      (fresh : (j : ℕ) → bank_here copy place.position j ≡ kept.Open (opened_bank j local.delta 0)) where
    abbrev IsPlacedBy : List Letter → Type 0
    IsPlacedBy letters = IsPlaced place letters copy (after_letters copy letters)

    bank_placed : (o : Option KeptBank) → place.bank ≡ o → IsOwnIfOpen local.node local.delta place o
        → IsPlacedBy (bank_letters local place (position (λ server. eqb server local.node) place.layout.members) o)
    bank_placed None e own = record {
      towards = towards;
      start = λ knows. refl;
      own = λ j named. fresh j ∙ ap (λ o. led_bank o j local.delta) (sym e);
      others = λ q j apart. refl;
    }
    bank_placed (Some bank) e own =
        let is = own_member local.node local.delta place bank own in
        let member = is.0 in
        let qs = requests_for bank in
        subst (λ o. IsPlacedBy (bank_letters local place o (Some bank)))
        (sym (member_found place.layout local.node member lawful is.1)) (
        let served = all_served moves local place member known is.1 room copy towards qs in record {
          towards = served.towards;
          start = served.start;
          own = λ j named.
              let same : member ≡ j = one_member place.layout member j local.node lawful is.1 named in
              let after = after_letters copy (map (letter_to local place member) qs) in
              ap (bank_here after place.position) (sym same)
              ∙ served.bank (opened_bank member local.delta 0) (fresh member) ∙ is.2
              ∙ ap (λ n. led_bank (Some bank) n local.delta) same
              ∙ ap (λ o. led_bank o j local.delta) (sym e);
          others = served.others;
        })

    placed : IsOwnIfOpen local.node local.delta place place.bank
        → IsPlacedBy (place_letters local.node local place)
    placed own = bank_placed place.bank refl own

-- All places

module _ (moves : Type 0) (local : LocalObject) where
  -- the copy has the bank to which the letters to the place lead, as the member that the node is
  abbrev pub HasLed : LocalObject → Place → Type 0
  HasLed copy place = (j : ℕ) → slice_get place.layout.members j ≡ Some local.node
      → bank_here copy place.position j ≡ led_bank place.bank j local.delta

  abbrev IsKnown : Place → Type 0
  IsKnown place = layout_here local place.position ≡ Some place.layout

  abbrev IsFresh : LocalObject → Place → Type 0
  IsFresh copy place = (j : ℕ) → bank_here copy place.position j ≡ kept.Open (opened_bank j local.delta 0)

  still_fresh : (first : Place) (copy after : LocalObject)
      → ((q j : ℕ) → (first.position ≡ q → ⊥) → bank_here after q j ≡ bank_here copy q j)
      → (places : List Place) → AreElsewhere first.position places → AllByRecursion (IsFresh copy) places
      → AllByRecursion (IsFresh after) places
  still_fresh first copy after others [] elsewhere fresh = tt
  still_fresh first copy after others (place ∷ places) elsewhere fresh = (
    λ j. others place.position j (λ e. elsewhere.0 (sym e)) ∙ fresh.0 j,
    still_fresh first copy after others places elsewhere.1 fresh.1,
  )

  pub record ArePlaced (places : List Place) (letters : List Letter) (copy after : LocalObject) : Type 0 where
    pub towards : IsTowards moves local after
    pub start : KnowsStart local.places local.start → after.start ≡ start_after letters copy.start local.start
    pub own : AllByRecursion (HasLed after) places
    pub others : (q j : ℕ) → AreElsewhere q places → bank_here after q j ≡ bank_here copy q j

  all_placed : (places : List Place) → HaveApartPositions places → AllByRecursion (IsOwnPlace local.node local.delta) places
      → AllByRecursion HasNextPosition places → AllByRecursion IsKnown places → (copy : LocalObject) → IsTowards moves local copy
      → AllByRecursion (IsFresh copy) places
      → ArePlaced places (places_letters local.node local places) copy
      (after_letters copy (places_letters local.node local places))
  all_placed [] apart own room known copy towards fresh =
      record { towards = towards; start = λ knows. refl; own = tt; others = λ q j elsewhere. refl }
  all_placed (place ∷ places) apart own room known copy towards fresh =
      let one = placed moves local place own.0.lawful room.0 known.0 copy towards fresh.0 own.0.own in
      let letters = place_letters local.node local place in
      let more = places_letters local.node local places in
      let middle = after_letters copy letters in
      let rest = all_placed places apart.1 own.1 room.1 known.1 middle one.towards
      (still_fresh place copy middle one.others places apart.0 fresh.1) in
      subst (ArePlaced (place ∷ places) (letters ++ more) copy) (sym (after_append copy letters more))
      (record {
        towards = rest.towards;
        start = λ knows. rest.start knows ∙ ap (λ s. start_after more s local.start) (one.start knows)
            ∙ sym (start_both letters more copy.start local.start);
        own = (λ j named. rest.others place.position j apart.0 ∙ one.own j named, rest.own);
        others = λ q j elsewhere. rest.others q j elsewhere.1 ∙ one.others q j elsewhere.0;
      })

  -- letters lead to all places
  pub letters_placed : (copy : LocalObject) → IsRebuildable local → AllByRecursion HasNextPosition local.places
      → IsBlankOf moves local copy → ArePlaced local.places (letters_to local) copy (after_letters copy (letters_to local))
  letters_placed copy rebuildable room blank =
      let found = all_found local.places rebuildable.apart in
      let known = all_map {P = λ place. heard_place local.places place.position ≡ Some place} {Q = IsKnown}
      (λ place e. ap layout_in e) local.places found in
      let towards : IsTowards moves local copy = record {
        node = blank.node;
        delta = blank.delta;
        start = blank.start;
        reports = blank.reports;
        layouts = blank.layouts;
        first = blank.first;
        calls = blank.calls;
        mover = blank.mover;
      } in
      let fresh = all_map {P = λ place. heard_place local.places place.position ≡ Some place} {Q = IsFresh copy}
      (λ place _ j. blank.banks place.position j) local.places found in
      all_placed local.places rebuildable.apart rebuildable.places room known copy towards fresh
