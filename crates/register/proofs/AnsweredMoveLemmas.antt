-- Which moves were answered.
use Rattle.std.proofs.Common.{◌≡◌, ℕ, zero, suc, ◌+◌, ◌<◌, ◌≤◌, ◌==◌, nat_lt, ◌||◌, ◌&&◌, Bool, true, false, not, cond, is_some}
use Rattle.std.proofs.Common.{List, [], ◌∷◌, take, slice_get, Option, Some, None, refl, sym, ap, ◌∙◌}
use Rattle.std.proofs.Common.{arith}
use Rattle.std.proofs.Common.{inl, inr, ◌⊎◌}
use Rattle.std.proofs.lemmas.Bool.Decides.{nat_tests}
use Rattle.record.specs.declared.call.CallKind.{CallKind}
use Rattle.record.specs.declared.call.CallKind.TheVariants.{Read, Write, Move}
use Rattle.record.specs.Legal.{is_move, moves_in}
use Rattle.record.specs.Records.{Call}
use Rattle.register.specs.Retiring.{is_moved_out}
use Rattle.register.specs.Kept.{has_open_move}
use Rattle.register.proofs.RoomLemmas.{is_lt, lt_of, not_lt}

-- the answered move that leads from a position, where the first of these calls' moves leads from `from`
pub record IsOut (calls : List Call) (from position : ℕ) : Type 0 where
  pub index : ℕ
  pub call : Call
  pub at : slice_get calls index ≡ Some call
  pub kind : call.kind ≡ Move
  pub source : from + moves_in (take index calls) ≡ position
  pub step : ℕ
  pub was : call.answered ≡ Some step

answered_at : (o : Option ℕ) → is_some o ≡ true → (step : ℕ) × (o ≡ Some step)
answered_at None e = absurd (cc)
answered_at (Some step) e = (step, refl)

-- one more call before it
out_behind : (call : Call) (calls : List Call) (from next position : ℕ) → (b : Bool) → is_move call.kind ≡ b → next ≡ cond b (suc from) from
    → IsOut calls next position → IsOut (call ∷ calls) from position
out_behind call calls from next position b is start out = record {
  index = suc out.index;
  call = out.call;
  at = out.at;
  kind = out.kind;
  source = ap (λ b. from + cond b (suc m) m) is ∙ counted b start;
  step = out.step;
  was = out.was;
}
  where
    m : ℕ
    m = moves_in (take out.index calls)

    counted : (b : Bool) → next ≡ cond b (suc from) from → from + cond b (suc m) m ≡ position
    counted true start = let source = out.source in omega (arith, source, start)
    counted false start = let source = out.source in omega (arith, source, start)

move_of : (k : CallKind) → is_move k ≡ true → k ≡ Move
move_of Move e = refl
move_of _ e = absurd (cc)

pub out_found : (calls : List Call) (from position : ℕ) → is_moved_out calls from position ≡ true → IsOut calls from position
out_found [] from position e = absurd (cc)
out_found (call ∷ calls) from position e =
    go (is_move call.kind) (from == position) refl refl
    (λ e. out_found calls from position e) (λ e. out_found calls (suc from) position e) e
  where
    go : (b same : Bool) → is_move call.kind ≡ b → (from == position) ≡ same
        → (is_moved_out calls from position ≡ true → IsOut calls from position)
        → (is_moved_out calls (suc from) position ≡ true → IsOut calls (suc from) position)
        → cond b (cond same (is_some call.answered) (is_moved_out calls (suc from) position)) (is_moved_out calls from position) ≡ true
        → IsOut (call ∷ calls) from position
    go false same is test stays goes e = out_behind call calls from from position false is refl (stays e)
    go true false is test stays goes e = out_behind call calls from (suc from) position true is refl (goes e)
    go true true is test stays goes e =
        let here : from ≡ position = grind (arith, nat_tests, test) in
        let answer = answered_at call.answered e in
        record {
          index = 0;
          call = call;
          at = refl;
          kind = move_of call.kind is;
          source = omega (arith, here);
          step = answer.0;
          was = answer.1;
        }

-- of the moves only the last may be open
abbrev pub AreInTurn : List Call → Type 0
AreInTurn [] = Unit {0}
AreInTurn (call ∷ calls) = (is_move call.kind ≡ true → 0 < moves_in calls → is_some call.answered ≡ true) × AreInTurn calls

record IsMoveIn (calls : List Call) : Type 0 where
  pub index : ℕ
  pub call : Call
  pub at : slice_get calls index ≡ Some call
  pub kind : call.kind ≡ Move

some_move : (calls : List Call) → 0 < moves_in calls → IsMoveIn calls
some_move [] some = absurd (omega (arith, some))
some_move (call ∷ calls) some = go call.kind refl (λ some. some_move calls some) some
  where
    behind : IsMoveIn calls → IsMoveIn (call ∷ calls)
    behind m = record { index = suc m.index; call = m.call; at = m.at; kind = m.kind }

    go : (k : CallKind) → call.kind ≡ k → (0 < moves_in calls → IsMoveIn calls)
        → 0 < cond (is_move k) (suc (moves_in calls)) (moves_in calls) → IsMoveIn (call ∷ calls)
    go Read is rest some = behind (rest some)
    go (Write value) is rest some = behind (rest some)
    go Move is rest some = record { index = 0; call = call; at = refl; kind = is }

abbrev pub MovesInTurn : List Call → Type 0
MovesInTurn calls = (i j : ℕ) (a b : Call) → slice_get calls i ≡ Some a → slice_get calls j ≡ Some b → i < j → a.kind ≡ Move
    → b.kind ≡ Move → (step : ℕ) × (a.answered ≡ Some step) × (step < b.called)

pub in_turn : (calls : List Call) → MovesInTurn calls → AreInTurn calls
in_turn [] moves = tt
in_turn (call ∷ calls) moves = (
  (λ is some.
      let m = some_move calls some in
      ap is_some (moves 0 (suc m.index) call m.call refl m.at (omega arith) (move_of call.kind is) m.kind).1),
  in_turn calls (λ i j a b p q less k l. moves (suc i) (suc j) a b p q (omega (arith, less)) k l),
)

-- how many moves are open
abbrev pub opens : Bool → ℕ
opens b = cond b 1 0

open_move : (calls : List Call) → has_open_move calls ≡ true → 0 < moves_in calls
open_move [] e = absurd (cc)
open_move (call ∷ calls) e = go (is_move call.kind) (is_some call.answered) (λ e. open_move calls e) e
  where
    go : (b a : Bool) → (has_open_move calls ≡ true → 0 < moves_in calls) → ((b && not a) || has_open_move calls) ≡ true
        → 0 < cond b (suc (moves_in calls)) (moves_in calls)
    go true a rest e = omega arith
    go false a rest e = rest e

-- a position was moved out of where so many moves are before it, and that one is not open
pub out_counted : (calls : List Call) (from position : ℕ) → AreInTurn calls → from ≤ position
    → is_moved_out calls from position ≡ nat_lt (position + opens (has_open_move calls)) (from + moves_in calls)
out_counted [] from position turn low = sym (not_lt (position + 0) (from + 0) (omega (arith, low)))
out_counted (call ∷ calls) from position turn low =
    go (is_move call.kind) (is_some call.answered) (from == position) refl refl refl
    (out_counted calls from position turn.1 low) (λ more. out_counted calls (suc from) position turn.1 more)
  where
    m : ℕ
    m = moves_in calls

    o : Bool
    o = has_open_move calls

    some_or : (n : ℕ) → (n ≡ 0) ⊎ (0 < n)
    some_or zero = inl refl
    some_or (suc n) = inr (omega arith)

    -- where this move is open there is none behind it
    last : is_move call.kind ≡ true → is_some call.answered ≡ false → m ≡ 0
    last is open_yet = either (some_or m)
      where
        either : (m ≡ 0) ⊎ (0 < m) → m ≡ 0
        either (inl none) = none
        either (inr some) = let clash : true ≡ false = sym (turn.0 is some) ∙ open_yet in absurd (cc)

    -- what is open behind this move is one of those
    within : (b : Bool) → o ≡ b → opens b ≤ m
    within true is = let some = open_move calls is in omega (arith, some)
    within false is = omega arith

    go : (b a same : Bool) → is_move call.kind ≡ b → is_some call.answered ≡ a → (from == position) ≡ same
        → is_moved_out calls from position ≡ nat_lt (position + opens o) (from + m)
        → (suc from ≤ position → is_moved_out calls (suc from) position ≡ nat_lt (position + opens o) (suc from + m))
        → cond b (cond same a (is_moved_out calls (suc from) position)) (is_moved_out calls from position)
        ≡ nat_lt (position + opens ((b && not a) || o)) (from + cond b (suc m) m)
    go false a same is answered test stays goes = stays
    go true true true is answered test stays goes =
        let here : from ≡ position = grind (arith, nat_tests, test) in
        let few : opens o ≤ m = within o refl in
        sym (is_lt (position + opens o) (from + suc m) (omega (arith, here, few)))
    go true false true is answered test stays goes =
        let here : from ≡ position = grind (arith, nat_tests, test) in
        let none = last is answered in
        sym (not_lt (position + 1) (from + suc m) (omega (arith, here, none)))
    go true true false is answered test stays goes =
        let more : suc from ≤ position = grind (arith, nat_tests, test, low) in
        let same : suc from + m ≡ from + suc m = omega arith in
        goes more ∙ ap (nat_lt (position + opens o)) same
    go true false false is answered test stays goes =
        let more : suc from ≤ position = grind (arith, nat_tests, test, low) in
        let none = last is answered in
        goes more
        ∙ not_lt (position + opens o) (suc from + m) (omega (arith, more, none))
        ∙ sym (not_lt (position + 1) (from + suc m) (omega (arith, more, none)))

pub shifted : (base x behind m : ℕ) → behind + base ≡ m → nat_lt (base + x) m ≡ nat_lt x behind
shifted base x behind m is = go (nat_lt x behind) refl
  where
    go : (b : Bool) → nat_lt x behind ≡ b → nat_lt (base + x) m ≡ b
    go true e = let below = lt_of x behind e in is_lt (base + x) m (omega (arith, below, is))
    go false e = let most : behind ≤ x = grind (arith, nat_tests, e) in not_lt (base + x) m (omega (arith, most, is))
