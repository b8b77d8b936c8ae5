-- A copy of an object, after letters led to its places, closes the banks that the object has closed.
use Rattle.std.proofs.Common.{◌≡◌, ℕ, cond, List, [], ◌∷◌, Option, Some, None, IsSome, is_some, slice_get, refl, sym, subst, ap, ◌∙◌}
use Rattle.std.specs.List.{AllByRecursion}
use Rattle.std.proofs.lemmas.Option.{same_Some}
use Rattle.layout.specs.Layout.{Layout}
use Rattle.encoder.specs.Fragment.{fragment}
use Rattle.bank.specs.Bank.{Bank, opened_bank}
use Rattle.closed_bank.specs.ClosedBank.{ClosedBank, closed_of}
use Rattle.closed_bank.specs.Restore.{requests_to_closed}
use Rattle.closed_bank.proofs.ClosedBankLemmas.{comes_back_short}
use Rattle.local_object.specs.declared.kept_bank.KeptBank.{KeptBank}
use Rattle.local_object.specs.declared.kept_bank.KeptBank.TheVariants as kept
use Rattle.local_object.specs.Distinct.{KnowsStart}
use Rattle.local_object.specs.Events.{LocalEvent, all_done}
use Rattle.local_object.specs.KeptBanks.{after_closing, closed_or, closing}
use Rattle.local_object.specs.Local.{LocalObject, Place, bank_here, bank_in, bank_or_opened, heard_place, layout_here, layout_in}
use Rattle.local_object.specs.Restarts.{IsKeptHere}
use Rattle.local_object.proofs.HeardPlaceLemmas.{bank_with_here, bank_with_there}
use Rattle.object_letters.specs.Closing.{after_close, after_closing_all, after_place_closed, is_closed}
use Rattle.object_letters.specs.Laws.{IsBlankOf}
use Rattle.object_letters.specs.Leading.{HasNextPosition}
use Rattle.object_letters.specs.Letters.{after_letters, letters_to, start_after}
use Rattle.object_letters.specs.Reached.{after_requests}
use Rattle.object_letters.specs.Rebuildable.{AreElsewhere, HaveApartPositions, IsOwnIfOpen, IsOwnPlace, IsRebuildable}
use Rattle.object_letters.proofs.PlaceLetterLemmas.{HasLed, at_place, led_bank, letters_placed}
use Rattle.object_letters.proofs.ServedCopyLemmas.{IsTowards, put}

-- a bank that is kept, and closes to a closed one
closes_to : (o : Option KeptBank) (member : ℕ) (delta : Option ℕ) (bank : Bank) (closed : ClosedBank)
    → bank_or_opened o member delta ≡ kept.Open bank → closed_of bank ≡ Some closed → closing o ≡ Some closed
closes_to None member delta bank closed is closes =
    absurd (let wrong : closed_of (opened_bank member delta 0) ≡ Some closed = ap closed_of (same_bank is) ∙ closes in cc)
  where
    same_bank : {a b : Bank} → kept.Open a ≡ kept.Open b → a ≡ b
    same_bank e = cc
closes_to (Some (kept.Open other)) member delta bank closed is closes = ap closed_of (same_bank is) ∙ closes
  where
    same_bank : {a b : Bank} → kept.Open a ≡ kept.Open b → a ≡ b
    same_bank e = cc
closes_to (Some (kept.Closed other)) member delta bank closed is closes = absurd (cc)

-- a place with a bank that closes has a layout
known_there : (o : Option Place) (closed : ClosedBank) → closing (bank_in o) ≡ Some closed → IsSome (layout_in o)
known_there None closed e = absurd (cc)
known_there (Some place) closed e = refl

module _ (moves : Type 0) (local : LocalObject) where
  -- One place

  -- the copy has what is kept of the bank of the place, as the member that the node is
  abbrev HasKept : LocalObject → Place → Type 0
  HasKept copy place = (j : ℕ) → slice_get place.layout.members j ≡ Some local.node
      → bank_here copy place.position j ≡ bank_or_opened place.bank j local.delta

  record IsClosedAt (place : Place) (copy after : LocalObject) : Type 0 where
    pub towards : IsTowards moves local after
    pub start : after.start ≡ copy.start
    pub own : HasKept after place
    pub others : (q j : ℕ) → (place.position ≡ q → ⊥) → bank_here after q j ≡ bank_here copy q j

  module _ (place : Place) (copy : LocalObject) (towards : IsTowards moves local copy) where
    -- the bank closes to a closed one
    close_one : (closed : ClosedBank) → place.bank ≡ Some (kept.Closed closed)
        → closing (bank_in (heard_place copy.places place.position)) ≡ Some closed
        → IsClosedAt place copy (after_close copy place.position)
    close_one closed e closes =
        let p = place.position in
        let old = bank_in (heard_place copy.places p) in
        let known = known_there (heard_place copy.places p) closed closes in
        subst (IsClosedAt place copy)
        (sym (ap (λ b. (all_done fragment copy (cond b (LocalEvent.Close p ∷ []) [])).local) (ap is_some closes)))
        (record {
          towards = put moves local copy p (after_closing old) towards;
          start = refl;
          own = λ j named. bank_with_here copy p (after_closing old) j known
              ∙ ap (λ o. bank_or_opened (closed_or o old) j copy.delta) closes
              ∙ ap (λ o. bank_or_opened o j local.delta) (sym e);
          others = λ q j apart. bank_with_there copy p (after_closing old) q j apart;
        })

    place_closed : (o : Option KeptBank) → place.bank ≡ o → IsOwnIfOpen local.node local.delta place o → HasLed moves local copy place
        → IsClosedAt place copy (cond (is_closed o) (after_close copy place.position) copy)
    place_closed None e own led = record {
      towards = towards;
      start = refl;
      own = λ j named. led j named ∙ ap (λ o. led_bank o j local.delta) e ∙ ap (λ o. bank_or_opened o j local.delta) (sym e);
      others = λ q j apart. refl;
    }
    place_closed (Some (kept.Open bank)) e own led = record {
      towards = towards;
      start = refl;
      own = λ j named. led j named ∙ ap (λ o. led_bank o j local.delta) e ∙ ap (λ o. bank_or_opened o j local.delta) (sym e);
      others = λ q j apart. refl;
    }
    place_closed (Some (kept.Closed closed)) e own led =
        let bank = after_requests (opened_bank own.0 local.delta 0) (requests_to_closed closed) in
        close_one closed e
        (closes_to (bank_in (heard_place copy.places place.position)) own.0 copy.delta bank closed
        (led own.0 own.1 ∙ ap (λ o. led_bank o own.0 local.delta) e) (comes_back_short own.0 local.delta 0 closed))

  -- All places

  still_led : (first : Place) (copy after : LocalObject)
      → ((q j : ℕ) → (first.position ≡ q → ⊥) → bank_here after q j ≡ bank_here copy q j)
      → (places : List Place) → AreElsewhere first.position places → AllByRecursion (HasLed moves local copy) places
      → AllByRecursion (HasLed moves local after) places
  still_led first copy after others [] elsewhere led = tt
  still_led first copy after others (place ∷ places) elsewhere led = (
    λ j named. others place.position j (λ e. elsewhere.0 (sym e)) ∙ led.0 j named,
    still_led first copy after others places elsewhere.1 led.1,
  )

  record AreClosed (places : List Place) (copy after : LocalObject) : Type 0 where
    pub towards : IsTowards moves local after
    pub start : after.start ≡ copy.start
    pub own : AllByRecursion (HasKept after) places
    pub others : (q j : ℕ) → AreElsewhere q places → bank_here after q j ≡ bank_here copy q j

  all_closed : (places : List Place) → HaveApartPositions places → AllByRecursion (IsOwnPlace local.node local.delta) places
      → (copy : LocalObject) → IsTowards moves local copy → AllByRecursion (HasLed moves local copy) places
      → AreClosed places copy (after_closing_all copy places)
  all_closed [] apart own copy towards led =
      record { towards = towards; start = refl; own = tt; others = λ q j elsewhere. refl }
  all_closed (place ∷ places) apart own copy towards led =
      let one = place_closed place copy towards place.bank refl own.0.own led.0 in
      let middle = after_place_closed copy place in
      let rest = all_closed places apart.1 own.1 middle one.towards
      (still_led place copy middle one.others places apart.0 led.1) in record {
        towards = rest.towards;
        start = rest.start ∙ one.start;
        own = (λ j named. rest.others place.position j apart.0 ∙ one.own j named, rest.own);
        others = λ q j elsewhere. rest.others q j elsewhere.1 ∙ one.others q j elsewhere.0;
      }

  -- the start that the copy then has
  pub letters_start : (copy : LocalObject) → IsRebuildable local → AllByRecursion HasNextPosition local.places
      → KnowsStart local.places local.start → IsBlankOf moves local copy
      → (after_closing_all (after_letters copy (letters_to local)) local.places).start
      ≡ start_after (letters_to local) copy.start local.start
  letters_start copy rebuildable room knows blank =
      let led = letters_placed moves local copy rebuildable room blank in
      let all = all_closed local.places rebuildable.apart rebuildable.places (after_letters copy (letters_to local)) led.towards led.own in
      all.start ∙ led.start knows

  -- letters lead back
  pub letters_lead : (copy : LocalObject) → IsRebuildable local → AllByRecursion HasNextPosition local.places
      → IsBlankOf moves local copy → IsKeptHere moves local (after_closing_all (after_letters copy (letters_to local)) local.places)
  letters_lead copy rebuildable room blank =
      let led = letters_placed moves local copy rebuildable room blank in
      let all = all_closed local.places rebuildable.apart rebuildable.places (after_letters copy (letters_to local)) led.towards led.own in
      let after = after_closing_all (after_letters copy (letters_to local)) local.places in record {
        node = all.towards.node;
        delta = all.towards.delta;
        start = all.towards.start;
        reports = all.towards.reports;
        layouts = all.towards.layouts;
        first = all.towards.first;
        banks = λ q j layout heard named. banks after all.own q j layout heard named (heard_place local.places q) refl;
        calls = all.towards.calls;
        mover = all.towards.mover;
      }
    where
      banks : (after : LocalObject) → AllByRecursion (HasKept after) local.places → (q j : ℕ) (layout : Layout)
          → layout_here local q ≡ Some layout → slice_get layout.members j ≡ Some local.node
          → (o : Option Place) → heard_place local.places q ≡ o → bank_here after q j ≡ bank_here local q j
      banks after own q j layout heard named None e =
          absurd (let wrong : None ≡ Some layout = sym (ap layout_in e) ∙ heard in cc)
      banks after own q j layout heard named (Some place) e =
          let there = at_place (HasKept after) local.places q place own e in
          let same : place.layout ≡ layout = same_Some place.layout layout (sym (ap layout_in e) ∙ heard) in
          ap (λ n. bank_here after n j) (sym there.1)
          ∙ there.0 j (ap (λ (l : Layout). slice_get l.members j) same ∙ named)
          ∙ ap (λ o. bank_or_opened (bank_in o) j local.delta) (sym e)
