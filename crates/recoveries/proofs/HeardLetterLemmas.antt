-- What a restart keeps of the positions of one object, where the node hears of a letter: of its layouts, and of the start
-- that it tells.
use Rattle.std.proofs.Common.{◌≡◌, ◌≤◌, ◌^◌, ℕ, suc, Bool, true, false, ◌&&◌, cond, nat_lt, ltb-true, Option, Some, None}
use Rattle.std.proofs.Common.{refl, arith}
use Rattle.std.proofs.lemmas.Bool.{ltb-false}
use Rattle.layout.specs.Layout.{Layout}
use Rattle.letter.specs.declared.letter.Letter.{Letter}
use Rattle.letter.specs.declared.start.Start.{Start}
use Rattle.local_object.specs.Agreement.{agrees, knows_all_of}
use Rattle.local_object.specs.Local.{LocalObject, heard_start, heard_start_if, layout_here, learnt_if, with_heard}
use Rattle.local_object.specs.Outcomes.{layouts_learnt, learnt_from}
use Rattle.local_object.specs.Restarts.{IsKeptHere}
use Rattle.local_object.proofs.HeardPlaceLemmas.{layout_stays}
use Rattle.recoveries.proofs.HeardLayoutLemmas.{Fits, fits_later, fits_still, fits_still_if, letter_fits, letter_heard, next_fits}
use Rattle.recoveries.proofs.HeardLayoutLemmas.{next_heard, start_fits, start_heard, stays_if, unheard_if}
use Rattle.recoveries.proofs.KeptPlaceLemmas.{both_fitting, both_moving, heard_alone}

-- Both hear of a layout, if there is one

both_moving_if : (moves : Type 0) (local copy : LocalObject) → IsKeptHere moves local copy → (p : ℕ) (o : Option Layout) → moves →
    IsKeptHere moves (learnt_if local p o) (learnt_if copy p o)
both_moving_if moves local copy kept p None here = kept
both_moving_if moves local copy kept p (Some layout) here = both_moving moves local copy kept p layout here

both_fitting_if : (moves : Type 0) (local copy : LocalObject) → IsKeptHere moves local copy → (p : ℕ) (o : Option Layout) →
    ((layout : Layout) → o ≡ Some layout → Fits local p layout) → IsKeptHere moves (learnt_if local p o) (learnt_if copy p o)
both_fitting_if moves local copy kept p None fits = kept
both_fitting_if moves local copy kept p (Some layout) fits = both_fitting moves local copy kept p layout (λ none. fits layout refl)

heard_alone_if : (moves : Type 0) (local copy : LocalObject) → IsKeptHere moves local copy → (p : ℕ) (o : Option Layout) →
    (moves → (layout : Layout) → o ≡ Some layout → layout_here local p ≡ Some layout) → IsKeptHere moves (learnt_if local p o) copy
heard_alone_if moves local copy kept p None known = kept
heard_alone_if moves local copy kept p (Some layout) known =
    heard_alone moves local copy kept p layout (λ here. known here layout refl)

-- A start after the node hears of another one

abbrev raised_to : (other own : ℕ) → ℕ
raised_to other own = cond (nat_lt own other && nat_lt other (2 ^ 31)) other own

-- it is not an earlier one
raised_later : (other own : ℕ) → own ≤ raised_to other own
raised_later other own = go (nat_lt own other) refl (nat_lt other (2 ^ 31))
  where
    go : (a : Bool) → nat_lt own other ≡ a → (b : Bool) → own ≤ cond (a && b) other own
    go true e true = let less = ltb-true own other e in omega (arith, less)
    go true e false = omega arith
    go false e b = omega arith

-- of two starts, the later one stays the later one
raised_order : (other less own : ℕ) → less ≤ own → raised_to other less ≤ raised_to other own
raised_order other less own order = go (nat_lt less other) (nat_lt own other) refl (nat_lt other (2 ^ 31))
  where
    go : (a b : Bool) → nat_lt own other ≡ b → (c : Bool) → cond (a && c) other less ≤ cond (b && c) other own
    go true true e true = omega arith
    go true true e false = order
    go true false e true = ltb-false own other e
    go true false e false = order
    go false true e true = let more = ltb-true own other e in omega (arith, order, more)
    go false true e false = order
    go false false e c = order

both_start : (moves : Type 0) (local copy : LocalObject) (start : Start) →
    IsKeptHere moves (with_heard local start.position start.layout) (with_heard copy start.position start.layout) →
    IsKeptHere moves (heard_start local start) (heard_start copy start)
both_start moves local copy start heard = record {
  node = heard.node;
  delta = heard.delta;
  start = raised_order start.position copy.start local.start heard.start;
  layouts = heard.layouts;
  first = heard.first;
  banks = heard.banks;
  reports = heard.reports;
  calls = heard.calls;
  mover = heard.mover;
}

-- Both hear of a start, if there is one

start_moving_if : (moves : Type 0) (local copy : LocalObject) → IsKeptHere moves local copy → (o : Option Start) → moves →
    IsKeptHere moves (heard_start_if local o) (heard_start_if copy o)
start_moving_if moves local copy kept None here = kept
start_moving_if moves local copy kept (Some start) here =
    both_start moves local copy start (both_moving moves local copy kept start.position start.layout here)

start_fitting_if : (moves : Type 0) (local copy : LocalObject) → IsKeptHere moves local copy → (o : Option Start) →
    ((start : Start) → o ≡ Some start → layout_here copy start.position ≡ None → Fits local start.position start.layout) →
    IsKeptHere moves (heard_start_if local o) (heard_start_if copy o)
start_fitting_if moves local copy kept None fits = kept
start_fitting_if moves local copy kept (Some start) fits =
    both_start moves local copy start (both_fitting moves local copy kept start.position start.layout (fits start refl))

start_alone_if : (moves : Type 0) (local copy : LocalObject) → IsKeptHere moves local copy → (o : Option Start) →
    (moves → (start : Start) → o ≡ Some start → layout_here local start.position ≡ Some start.layout) →
    IsKeptHere moves (heard_start_if local o) copy
start_alone_if moves local copy kept None known = kept
start_alone_if moves local copy kept (Some start) known =
    let heard = heard_alone moves local copy kept start.position start.layout (λ here. known here start refl) in record {
      node = heard.node;
      delta = heard.delta;
      start = let order = kept.start in let later = raised_later start.position local.start in omega (arith, order, later);
      layouts = heard.layouts;
      first = heard.first;
      banks = heard.banks;
      reports = heard.reports;
      calls = heard.calls;
      mover = heard.mover;
    }

-- Both hear of a letter

module _ (moves : Type 0) (local copy : LocalObject) (kept : IsKeptHere moves local copy) (letter : Letter) where
  abbrev position : ℕ
  position = letter.message.position

  -- the node and the copy after they heard of the layout of the letter's position
  abbrev own : LocalObject
  own = with_heard local position letter.layout

  abbrev other : LocalObject
  other = with_heard copy position letter.layout

  pub letter_moving : moves → IsKeptHere moves (learnt_from local letter) (learnt_from copy letter)
  letter_moving here =
      start_moving_if moves (layouts_learnt local letter) (layouts_learnt copy letter)
      (both_moving_if moves own other (both_moving moves local copy kept position letter.layout here) (suc position) letter.next here)
      letter.start here

  pub letter_fitting : agrees local letter ≡ true → IsKeptHere moves (learnt_from local letter) (learnt_from copy letter)
  letter_fitting agreed =
      start_fitting_if moves (layouts_learnt local letter) (layouts_learnt copy letter)
      (both_fitting_if moves own other
      (both_fitting moves local copy kept position letter.layout (λ none. letter_fits local letter agreed)) (suc position) letter.next
      (λ next is. fits_later local position letter.layout next (next_fits local letter agreed next is)))
      letter.start
      (λ start is none.
      fits_still_if own other (suc position) start.position letter.next start.layout none
      (fits_still local copy position letter.layout start.position start.layout
      (unheard_if own other (suc position) start.position letter.next none) (start_fits local letter agreed start is)))

  pub letter_alone : (moves → knows_all_of local letter ≡ true) → IsKeptHere moves (learnt_from local letter) copy
  letter_alone knows =
      start_alone_if moves (layouts_learnt local letter) copy
      (heard_alone_if moves own copy
      (heard_alone moves local copy kept position letter.layout (λ here. letter_heard local letter (knows here))) (suc position)
      letter.next
      (λ here next is.
      layout_stays local position letter.layout (suc position) next (next_heard local letter (knows here) next is)))
      letter.start
      (λ here start is.
      stays_if own (suc position) letter.next start.position start.layout
      (layout_stays local position letter.layout start.position start.layout
      (start_heard local letter (knows here) start is)))
