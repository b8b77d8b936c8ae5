-- A node closes a bank.
use Rattle.std.proofs.Common.{◌≡◌, ℕ, Bool, true, false, cond, eqb, eqb-true, List, [], ◌∷◌, Option, None, Some, is_some, option_map}
use Rattle.std.proofs.Common.{refl, sym, ap, ◌∙◌}
use Rattle.encoder.specs.Fragment.{fragment}
use Rattle.closed_bank.specs.ClosedBank.{ClosedBank, closed_of}
use Rattle.local_object.specs.declared.kept_bank.KeptBank.{KeptBank}
use Rattle.local_object.specs.declared.kept_bank.KeptBank.TheVariants as kept
use Rattle.local_object.specs.Doing.{close_events}
use Rattle.local_object.specs.Events.{LocalEvent, all_done, closed_here}
use Rattle.local_object.specs.KeptBanks.{after_closing, closed_or, closing}
use Rattle.local_object.specs.Local.{LocalObject, Place, bank_here, bank_in, bank_or_opened, heard_place, with_bank_here}
use Rattle.local_object.proofs.HeardPlaceLemmas.{place_with, with_new}

-- a bank that is put back
pub put_back : (places : List Place) (p : ℕ) → with_bank_here places p (bank_in (heard_place places p)) ≡ places
put_back [] p = refl
put_back (place ∷ places) p = go (eqb place.position p) (put_back places p)
  where
    go : (b : Bool) → with_bank_here places p (bank_in (heard_place places p)) ≡ places
        → (let bank = bank_in (cond b (Some place) (heard_place places p)) in
        cond b (record place { bank = bank } ∷ places) (place ∷ with_bank_here places p bank)) ≡ place ∷ places
    go true rest = refl
    go false rest = ap (λ (ps : List Place). place ∷ ps) rest

-- what comes of closing a bank, also if it cannot be closed
pub close_is : (local : LocalObject) (p : ℕ) → (all_done fragment local (close_events local p)).local ≡ closed_here local p
close_is local p = go (closing (bank_in (heard_place local.places p))) refl
  where
    go : (o : Option ClosedBank) → closing (bank_in (heard_place local.places p)) ≡ o
        → (all_done fragment local (cond (is_some o) (LocalEvent.Close p ∷ []) [])).local ≡ closed_here local p
    go None e =
        sym (ap (λ o. record local { places = with_bank_here local.places p (closed_or o (bank_in (heard_place local.places p))) }) e
        ∙ ap (λ (ps : List Place). record local { places = ps }) (put_back local.places p))
    go (Some closed) e = refl

-- what is kept of a bank once the node closed it, if it can be closed
abbrev pub left_or : Option ClosedBank → KeptBank → KeptBank
left_or None bank = bank
left_or (Some closed) bank = kept.Closed closed

abbrev pub left_of : KeptBank → KeptBank
left_of bank = left_or (closing (Some bank)) bank

left_opened : (o : Option KeptBank) (member : ℕ) (delta : Option ℕ)
    → bank_or_opened (after_closing o) member delta ≡ left_of (bank_or_opened o member delta)
left_opened None member delta = refl
left_opened (Some (kept.Closed closed)) member delta = refl
left_opened (Some (kept.Open bank)) member delta = go (closed_of bank)
  where
    go : (o : Option ClosedBank) → bank_or_opened (closed_or o (Some (kept.Open bank))) member delta ≡ left_or o (kept.Open bank)
    go None = refl
    go (Some closed) = refl

-- the banks of a node after it closed one
pub bank_closed : (local : LocalObject) (p q member : ℕ)
    → bank_here (closed_here local p) q member ≡ cond (eqb p q) (left_of (bank_here local q member)) (bank_here local q member)
bank_closed local p q member =
    ap (λ o. bank_or_opened (bank_in o) member local.delta)
    (place_with local.places p (after_closing (bank_in (heard_place local.places p))) q)
    ∙ go (eqb p q) refl
  where
    put : (o : Option Place) → bank_or_opened (bank_in (option_map (with_new (after_closing (bank_in o)) true) o)) member local.delta
        ≡ left_of (bank_or_opened (bank_in o) member local.delta)
    put None = refl
    put (Some place) = left_opened place.bank member local.delta

    same : (bank : Option KeptBank) (o : Option Place) → bank_or_opened (bank_in (option_map (with_new bank false) o)) member local.delta
        ≡ bank_or_opened (bank_in o) member local.delta
    same bank None = refl
    same bank (Some place) = refl

    go : (b : Bool) → eqb p q ≡ b
        → bank_or_opened (bank_in (option_map (with_new (after_closing (bank_in (heard_place local.places p))) b)
        (heard_place local.places q))) member local.delta
        ≡ cond b (left_of (bank_here local q member)) (bank_here local q member)
    go true e =
        ap (λ n. bank_or_opened (bank_in (option_map (with_new (after_closing (bank_in (heard_place local.places n))) true)
        (heard_place local.places q))) member local.delta) (eqb-true p q e)
        ∙ put (heard_place local.places q)
    go false e = same (after_closing (bank_in (heard_place local.places p))) (heard_place local.places q)
