-- What is known of a fit object is fit: the layouts, the banks, the start, and the last position.
use Rattle.std.proofs.Common.{◌≡◌, ℕ, suc, ◌<◌, ◌^◌, Bool, true, false, cond, eqb, nat_lt, List, [], ◌∷◌, Option, Some, None, IsSome, refl}
use Rattle.std.proofs.Common.{sym, subst, arith}
use Rattle.std.specs.List.{AllByRecursion}
use Rattle.std.specs.Prelude.{IfSome, ◌==◌}
use Rattle.layout.specs.Layout.{Layout}
use Rattle.local_object.specs.Local.{LocalObject, Place, bank_in, heard_place, layout_here, layout_in, greatest_position, last_position}
use Rattle.local_object.specs.Local.{start_at, told_start, with_heard}
use Rattle.object_letters.proofs.PlaceLetterLemmas.{at_place}
use Rattle.fitting.specs.Letters.{IsFitLayout, IsFitStart}
use Rattle.fitting.specs.Objects.{IsFitKept, IsFitObject, IsFitPlace, says_next}
use Rattle.fitting.proofs.ListLemmas.{new_place, or_new, place_heard}

pub known_fit : (local : LocalObject) → IsFitObject local → (q : ℕ) → IfSome (layout_here local q) IsFitLayout
known_fit local fit q = go (heard_place local.places q) refl
  where
    go : (o : Option Place) → heard_place local.places q ≡ o → IfSome (layout_in o) IsFitLayout
    go None e = tt
    go (Some place) e = (at_place (IsFitPlace local.places) local.places q place fit.places e).0.layout

pub known_small : (local : LocalObject) → IsFitObject local → (q : ℕ) (layout : Layout) → layout_here local q ≡ Some layout → q < 2 ^ 32
known_small local fit q layout known = go (heard_place local.places q) refl known
  where
    go : (o : Option Place) → heard_place local.places q ≡ o → layout_in o ≡ Some layout → q < 2 ^ 32
    go None e is = absurd (cc)
    go (Some place) e is =
        let at = at_place (IsFitPlace local.places) local.places q place fit.places e in subst (λ n. n < 2 ^ 32) at.1 at.0.position

-- what is kept of a bank
pub place_bank : (local : LocalObject) → IsFitObject local → (q : ℕ) → IfSome (bank_in (heard_place local.places q)) IsFitKept
place_bank local fit q = go (heard_place local.places q) refl
  where
    go : (o : Option Place) → heard_place local.places q ≡ o → IfSome (bank_in o) IsFitKept
    go None e = tt
    go (Some place) e = (at_place (IsFitPlace local.places) local.places q place fit.places e).0.bank

-- if a bank says that there is a next position, the node has heard of that
pub says_known : (local : LocalObject) → IsFitObject local → (q : ℕ) → says_next (bank_in (heard_place local.places q)) ≡ true →
    IsSome (layout_here local (suc q))
says_known local fit q says = go (heard_place local.places q) refl says
  where
    go : (o : Option Place) → heard_place local.places q ≡ o → says_next (bank_in o) ≡ true → IsSome (layout_here local (suc q))
    go None e says = absurd (cc)
    go (Some place) e says =
        let at = at_place (IsFitPlace local.places) local.places q place fit.places e in
        subst (λ n. IsSome (layout_here local (suc n))) at.1 (at.0.next says)

-- the start fits 32 bits
pub start_small : (local : LocalObject) → IsFitObject local → local.start < 2 ^ 32
start_small local fit = let room = fit.start in omega (arith, room)

-- the start that a node tells is fit, if what it knows of the position is
pub told_fit : (local : LocalObject) → local.start < 2 ^ 32 → IfSome (layout_here local local.start) IsFitLayout →
    IfSome (told_start local) IsFitStart
told_fit local small known = go (layout_here local local.start) known
  where
    test : (b : Bool) (layout : Layout) → IsFitLayout layout →
        IfSome (cond b None (Some (record { position = local.start; layout = layout }))) IsFitStart
    test true layout lawful = tt
    test false layout lawful = record { position = small; layout = lawful }

    go : (o : Option Layout) → IfSome o IsFitLayout → IfSome (start_at local.start o) IsFitStart
    go None known = tt
    go (Some layout) known = test (local.start == 0) layout known

-- so is what is known once the node hears of one more position
pub heard_knows : (local : LocalObject) (p : ℕ) (layout : Layout) → IsFitObject local → IsFitLayout layout → (q : ℕ) →
    IfSome (layout_here (with_heard local p layout) q) IsFitLayout
heard_knows local p layout fit lawful q =
    subst (λ (o : Option Place). IfSome (layout_in o) IsFitLayout) (sym (place_heard local p layout q))
    (go (heard_place local.places q) (eqb p q) (known_fit local fit q))
  where
    go : (o : Option Place) (b : Bool) → IfSome (layout_in o) IsFitLayout →
        IfSome (layout_in (or_new o (cond b (Some (new_place p layout)) None))) IsFitLayout
    go None true fit = lawful
    go None false fit = tt
    go (Some place) b fit = fit

greatest_small : (all places : List Place) (greatest : ℕ) → AllByRecursion (IsFitPlace all) places → greatest < 2 ^ 32 →
    greatest_position places greatest < 2 ^ 32
greatest_small all [] greatest fit small = small
greatest_small all (place ∷ places) greatest fit small =
    greatest_small all places (cond (nat_lt greatest place.position) place.position greatest) fit.1 (go (nat_lt greatest place.position))
  where
    go : (b : Bool) → cond b place.position greatest < 2 ^ 32
    go true = fit.0.position
    go false = small

-- the last position fits 32 bits
pub last_small : (local : LocalObject) → IsFitObject local → last_position local < 2 ^ 32
last_small local fit = greatest_small local.places local.places 0 fit.places (omega arith)
