-- A copy of an object hears of the start that the object's letters tell.
use Rattle.std.proofs.Common.{◌≡◌, ◌≤◌, ◌^◌, ℕ, Bool, true, false, ◌&&◌, cond, eqb, eqb-true, nat_lt, List, [], ◌∷◌, ◌++◌}
use Rattle.std.proofs.Common.{Option, Some, None, IsSome, refl, sym, ap, ◌∙◌, arith}
use Rattle.std.proofs.lemmas.Bool.{lt-ltb, ltb-false}
use Rattle.std.proofs.lemmas.Option.{same_Some}
use Rattle.layout.specs.Layout.{Layout}
use Rattle.letter.specs.declared.letter.Letter.{Letter}
use Rattle.letter.specs.declared.start.Start.{Start}
use Rattle.local_object.specs.Distinct.{KnowsStart}
use Rattle.local_object.specs.Local.{LocalObject, bank_here, heard_start_if, layout_here, start_at, told_start}
use Rattle.local_object.proofs.HeardPlaceLemmas.{bank_learnt, layout_stays}
use Rattle.object_letters.specs.Letters.{start_after}

-- the start that an object's letters tell is its own, with the layout that it knows
pub told_is : (local : LocalObject) (start : Start) → told_start local ≡ Some start
    → (start.position ≡ local.start) × (layout_here local local.start ≡ Some start.layout)
told_is local start e = go (layout_here local local.start) refl e
  where
    with_layout : (layout : Layout) (b : Bool)
        → cond b None (Some (let s : Start = record { position = local.start; layout = layout } in s)) ≡ Some start
        → (start.position ≡ local.start) × (Some layout ≡ Some start.layout)
    with_layout layout true is = absurd (cc)
    with_layout layout false is =
        let same = same_Some (let s : Start = record { position = local.start; layout = layout } in s) start is in
        (ap (λ (s : Start). s.position) (sym same), ap (λ (s : Start). Some s.layout) same)

    go : (o : Option Layout) → layout_here local local.start ≡ o → start_at local.start o ≡ Some start
        → (start.position ≡ local.start) × (layout_here local local.start ≡ Some start.layout)
    go None k is = absurd (cc)
    go (Some layout) k is = let both = with_layout layout (eqb local.start 0) is in (both.0, k ∙ both.1)

-- a copy that hears of a start goes on knowing layouts, and its banks stay
pub layout_started : (copy : LocalObject) (o : Option Start) (q : ℕ) (layout : Layout) → layout_here copy q ≡ Some layout
    → layout_here (heard_start_if copy o) q ≡ Some layout
layout_started copy None q layout e = e
layout_started copy (Some start) q layout e = layout_stays copy start.position start.layout q layout e

pub bank_started : (copy : LocalObject) (o : Option Start) (q member : ℕ)
    → bank_here (heard_start_if copy o) q member ≡ bank_here copy q member
bank_started copy None q member = refl
bank_started copy (Some start) q member = bank_learnt copy start.position start.layout q member

-- the copy's start does not get later than the one that it hears of
pub told_order : (copy : LocalObject) (start : Start) (own : ℕ) → copy.start ≤ own → start.position ≡ own
    → (heard_start_if copy (Some start)).start ≤ own
told_order copy start own order same = go (nat_lt copy.start start.position && nat_lt start.position (2 ^ 31))
  where
    go : (b : Bool) → cond b start.position copy.start ≤ own
    go true = omega (arith, same)
    go false = order

-- it is then the one of the object, if that fits
pub start_told : (local : LocalObject) → KnowsStart local.places local.start → (copy : LocalObject) → copy.start ≤ local.start
    → (heard_start_if copy (told_start local)).start ≡ local.start
start_told local knows copy order = go (layout_here local local.start) knows.known
  where
    later : (b : Bool) → nat_lt copy.start local.start ≡ b
        → cond (b && nat_lt local.start (2 ^ 31)) local.start copy.start ≡ local.start
    later true e = ap (λ b. cond b local.start copy.start) (lt-ltb local.start (2 ^ 31) knows.small)
    later false e = let back = ltb-false copy.start local.start e in omega (arith, order, back)

    with_layout : (layout : Layout) (b : Bool) → eqb local.start 0 ≡ b
        → (heard_start_if copy (cond b None (Some (let s : Start = record { position = local.start; layout = layout } in s)))).start
        ≡ local.start
    with_layout layout true e = let zero = eqb-true local.start 0 e in omega (arith, order, zero)
    with_layout layout false e = later (nat_lt copy.start local.start) refl

    go : (o : Option Layout) → IsSome o → (heard_start_if copy (start_at local.start o)).start ≡ local.start
    go None some = absurd (cc)
    go (Some layout) some = with_layout layout (eqb local.start 0) refl

-- The start after letters

-- letters that tell the start that the copy has already
pub same_start : (letters : List Letter) (old told : ℕ) → old ≡ told → start_after letters old told ≡ told
same_start [] old told same = same
same_start (letter ∷ letters) old told same = refl

-- letters, and then others
pub start_both : (first second : List Letter) (old told : ℕ)
    → start_after (first ++ second) old told ≡ start_after second (start_after first old told) told
start_both [] second old told = refl
start_both (letter ∷ first) second old told = sym (same_start second told told refl)
