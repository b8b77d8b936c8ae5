-- What a restart keeps of the calls of one object, where a call begins, changes or ends.
use Rattle.std.proofs.Common.{◌≡◌, ℕ, Bool, true, false, ◌||◌, not, cond, eqb, eqb-true, eq-eqb, List, [], ◌∷◌, ◌++◌, Some, None}
use Rattle.std.proofs.Common.{refl, sym, ap, ◌∙◌}
use Rattle.std.proofs.lemmas.Option.{same_Some}
use Rattle.std.specs.List.{AllByRecursion, filter, list_any}
use Rattle.record.specs.Legal.{is_move}
use Rattle.open_calls.proofs.ListLemmas.{all_weaker}
use Rattle.open_calls.specs.OpenCalls.{NodeCall, open_call, with_open, without_call, NodeCallsDiffer}
use Rattle.open_calls.proofs.OpenCallLemmas.{found_filter}
use Rattle.local_object.specs.declared.report.Report.{Report}
use Rattle.local_object.specs.Doing.{is_moving}
use Rattle.local_object.specs.Events.{ended_here}
use Rattle.local_object.specs.Local.{LocalObject}
use Rattle.local_object.specs.Reports.{without_reports}
use Rattle.local_object.specs.Restarts.{IsKeptHere}
use Rattle.open_calls.proofs.CallsOfNodeLemmas.{append_nothing, filter_push, filter_swap, filter_within, only_one, with_here, with_there}
use Rattle.open_calls.proofs.DistinctCallLemmas.{distinct_filter, distinct_push, distinct_with}

-- the copy has what a restart keeps; no two calls have the same id; and where a move is open, the node moves objects
pub record IsObjectCopy (moves : Type 0) (local copy : LocalObject) : Type 0 where
  pub kept : IsKeptHere moves local copy
  pub distinct : NodeCallsDiffer local.calls
  pub mover : is_moving local ≡ true → moves

-- whether a call is a move
abbrev pub moves_call : NodeCall → Bool
moves_call call = is_move call.kind

-- Calls that are found

pub found_id : (calls : List NodeCall) (id : ℕ) (call : NodeCall) → open_call calls id ≡ Some call → call.id ≡ id
found_id [] id call e = absurd (cc)
found_id (first ∷ calls) id call e = go (eqb first.id id) refl e (found_id calls id call)
  where
    go : (b : Bool) → eqb first.id id ≡ b → cond b (Some first) (open_call calls id) ≡ Some call →
        (open_call calls id ≡ Some call → call.id ≡ id) → call.id ≡ id
    go true t is rest = ap (λ (c : NodeCall). c.id) (sym (same_Some first call is)) ∙ eqb-true first.id id t
    go false t is rest = rest is

pub none_apart : (calls : List NodeCall) (id : ℕ) → open_call calls id ≡ None → AllByRecursion (λ call. call.id ≡ id → ⊥) calls
none_apart [] id e = tt
none_apart (first ∷ calls) id e = go (eqb first.id id) refl e (none_apart calls id)
  where
    go : (b : Bool) → eqb first.id id ≡ b → cond b (Some first) (open_call calls id) ≡ None →
        (open_call calls id ≡ None → AllByRecursion (λ (call : NodeCall). call.id ≡ id → ⊥) calls) →
        AllByRecursion (λ (call : NodeCall). call.id ≡ id → ⊥) (first ∷ calls)
    go true t is rest = absurd (cc)
    go false t is rest = (λ same. absurd (let wrong : false ≡ true = sym t ∙ eq-eqb first.id id same in cc), rest is)

-- a move that is found is one that is carried out
pub found_moves : (calls : List NodeCall) (id : ℕ) (call : NodeCall) → open_call calls id ≡ Some call → moves_call call ≡ true →
    list_any moves_call calls ≡ true
found_moves [] id call e is = absurd (cc)
found_moves (first ∷ calls) id call e is = go (eqb first.id id) e (λ there. found_moves calls id call there is)
  where
    later : (a b : Bool) → b ≡ true → (a || b) ≡ true
    later true b e = refl
    later false b e = e

    go : (b : Bool) → cond b (Some first) (open_call calls id) ≡ Some call → (open_call calls id ≡ Some call →
        list_any moves_call calls ≡ true) → (moves_call first || list_any moves_call calls) ≡ true
    go true there rest =
        ap (λ u. u || list_any moves_call calls) (ap moves_call (same_Some first call there) ∙ is)
    go false there rest = later (moves_call first) (list_any moves_call calls) (rest there)

-- whether there is a move is told by the moves alone
abbrev is_some_call : List NodeCall → Bool
is_some_call [] = false
is_some_call (first ∷ calls) = true

any_moves : (calls : List NodeCall) → list_any moves_call calls ≡ is_some_call (filter moves_call calls)
any_moves [] = refl
any_moves (first ∷ calls) = go (moves_call first) (any_moves calls)
  where
    go : (b : Bool) → list_any moves_call calls ≡ is_some_call (filter moves_call calls) →
        (b || list_any moves_call calls) ≡ is_some_call (cond b (first ∷ filter moves_call calls) (filter moves_call calls))
    go true rest = refl
    go false rest = rest

pub moving_as : (old new : List NodeCall) → filter moves_call new ≡ filter moves_call old → list_any moves_call new ≡ true →
    list_any moves_call old ≡ true
moving_as old new same moving = any_moves old ∙ ap is_some_call (sym same) ∙ sym (any_moves new) ∙ moving

-- the moves among moves are all
pub moves_twice : (calls : List NodeCall) → filter moves_call (filter moves_call calls) ≡ filter moves_call calls
moves_twice calls = filter_within moves_call moves_call calls (each calls)
  where
    each : (calls : List NodeCall) → AllByRecursion (λ call. moves_call call ≡ false → moves_call call ≡ false) calls
    each [] = tt
    each (first ∷ calls) = (λ e. e, each calls)

-- what is so of the call that is found is so of each with its id
as_found : (calls : List NodeCall) (id : ℕ) (call : NodeCall) (b : Bool) → NodeCallsDiffer calls → open_call calls id ≡ Some call →
    moves_call call ≡ b → AllByRecursion (λ other. other.id ≡ id → moves_call other ≡ b) calls
as_found calls id call b distinct found is =
    all_weaker (λ (other : NodeCall). other.id ≡ id → other ≡ call) (λ (other : NodeCall). other.id ≡ id → moves_call other ≡ b)
    (λ other same at. ap moves_call (same at) ∙ is) calls (only_one calls id call distinct found)

-- Calls that change: what they are told is not kept

calls_kept : (moves : Type 0) (local copy : LocalObject) → IsKeptHere moves local copy → (calls those : List NodeCall)
    (reports told : List Report) → those ≡ filter moves_call calls → told ≡ [] →
    IsKeptHere moves (record local { calls = calls; reports = reports }) (record copy { calls = those; reports = told })
calls_kept moves local copy kept calls those reports told same none = record {
  node = kept.node;
  delta = kept.delta;
  start = kept.start;
  layouts = kept.layouts;
  first = kept.first;
  banks = kept.banks;
  reports = none;
  calls = same;
  mover = kept.mover;
}

calls_left : (moves : Type 0) (local copy : LocalObject) → IsKeptHere moves local copy → (calls : List NodeCall)
    (reports : List Report) → filter moves_call calls ≡ filter moves_call local.calls →
    IsKeptHere moves (record local { calls = calls; reports = reports }) copy
calls_left moves local copy kept calls reports same = record {
  node = kept.node;
  delta = kept.delta;
  start = kept.start;
  layouts = kept.layouts;
  first = kept.first;
  banks = kept.banks;
  reports = kept.reports;
  calls = kept.calls ∙ sym same;
  mover = kept.mover;
}

module _ (moves : Type 0) (local copy : LocalObject) (is : IsObjectCopy moves local copy) where
  -- the copy finds the same move
  pub found_copy : (id : ℕ) (call : NodeCall) → open_call local.calls id ≡ Some call → moves_call call ≡ true →
      open_call copy.calls id ≡ Some call
  found_copy id call found move =
      ap (λ calls. open_call calls id) is.kept.calls ∙ found_filter moves_call local.calls id call found move

  -- a move changes, at both
  pub with_move : moves → (id : ℕ) (call new : NodeCall) (reports told : List Report) → open_call local.calls id ≡ Some call →
      moves_call call ≡ true → new.id ≡ call.id → moves_call new ≡ true → told ≡ [] → IsObjectCopy moves
      (record local { calls = with_open new local.calls; reports = reports })
      (record copy { calls = with_open new copy.calls; reports = told })
  with_move here id call new reports told found move same still none = record {
    kept = calls_kept moves local copy is.kept (with_open new local.calls) (with_open new copy.calls) reports told
        (ap (with_open new) is.kept.calls ∙ sym (with_here moves_call new local.calls still
        (all_weaker (λ (other : NodeCall). other.id ≡ id → moves_call other ≡ true)
        (λ (other : NodeCall). other.id ≡ new.id → moves_call other ≡ moves_call new)
        (λ other those at. those (at ∙ same ∙ found_id local.calls id call found) ∙ sym still) local.calls
        (as_found local.calls id call true is.distinct found move)))) none;
    distinct = distinct_with new local.calls is.distinct;
    mover = λ moving. here;
  }

  -- a move ends, at both
  pub without_move : moves → (id : ℕ) → IsObjectCopy moves (ended_here local id) (ended_here copy id)
  without_move here id = record {
    kept = calls_kept moves local copy is.kept (without_call id local.calls) (without_call id copy.calls)
        (without_reports id local.reports) (without_reports id copy.reports)
        (ap (without_call id) is.kept.calls
        ∙ filter_swap (λ call. not (eqb call.id id)) moves_call moves_call (λ call e. refl) local.calls)
        (ap (without_reports id) is.kept.reports);
    distinct = distinct_filter (λ call. not (eqb call.id id)) local.calls is.distinct;
    mover = λ moving. here;
  }

  -- a move begins, at both
  pub plus_move : moves → (new : NodeCall) → open_call local.calls new.id ≡ None → moves_call new ≡ true → IsObjectCopy moves
      (record local { calls = local.calls ++ new ∷ [] }) (record copy { calls = copy.calls ++ new ∷ [] })
  plus_move here new none move = record {
    kept = calls_kept moves local copy is.kept (local.calls ++ new ∷ []) (copy.calls ++ new ∷ []) local.reports copy.reports
        (ap (λ calls. calls ++ new ∷ []) is.kept.calls ∙ sym (filter_push moves_call new true move local.calls))
        is.kept.reports;
    distinct = distinct_push local.calls new is.distinct (none_apart local.calls new.id none);
    mover = λ moving. here;
  }

  left : (calls : List NodeCall) (reports : List Report) → filter moves_call calls ≡ filter moves_call local.calls →
      NodeCallsDiffer calls → IsObjectCopy moves (record local { calls = calls; reports = reports }) copy
  left calls reports same distinct = record {
    kept = calls_left moves local copy is.kept calls reports same;
    distinct = distinct;
    mover = λ moving. is.mover (moving_as local.calls calls same moving);
  }

  -- a read or a write changes
  pub with_client : (id : ℕ) (call new : NodeCall) (reports : List Report) → open_call local.calls id ≡ Some call →
      moves_call call ≡ false → new.id ≡ call.id → moves_call new ≡ false →
      IsObjectCopy moves (record local { calls = with_open new local.calls; reports = reports }) copy
  with_client id call new reports found client same still =
      left (with_open new local.calls) reports
      (with_there moves_call new local.calls still
      (all_weaker (λ (other : NodeCall). other.id ≡ id → moves_call other ≡ false)
      (λ (other : NodeCall). other.id ≡ new.id → moves_call other ≡ moves_call new)
      (λ other those at. those (at ∙ same ∙ found_id local.calls id call found) ∙ sym still) local.calls
      (as_found local.calls id call false is.distinct found client)))
      (distinct_with new local.calls is.distinct)

  -- a read or a write ends
  pub without_client : (id : ℕ) (call : NodeCall) → open_call local.calls id ≡ Some call → moves_call call ≡ false →
      IsObjectCopy moves (ended_here local id) copy
  without_client id call found client =
      left (without_call id local.calls) (without_reports id local.reports)
      (filter_within moves_call (λ call. not (eqb call.id id)) local.calls
      (all_weaker (λ (other : NodeCall). other.id ≡ id → moves_call other ≡ false)
      (λ (other : NodeCall). not (eqb other.id id) ≡ false → moves_call other ≡ false)
      (λ other those off. those (eqb-true other.id id (twice (eqb other.id id) off))) local.calls
      (as_found local.calls id call false is.distinct found client)))
      (distinct_filter (λ call. not (eqb call.id id)) local.calls is.distinct)
    where
      twice : (b : Bool) → not b ≡ false → b ≡ true
      twice true e = refl
      twice false e = absurd (cc)

  -- a read or a write begins
  pub plus_client : (new : NodeCall) → open_call local.calls new.id ≡ None → moves_call new ≡ false →
      IsObjectCopy moves (record local { calls = local.calls ++ new ∷ [] }) copy
  plus_client new none client =
      left (local.calls ++ new ∷ []) local.reports
      (filter_push moves_call new false client local.calls ∙ append_nothing (filter moves_call local.calls))
      (distinct_push local.calls new is.distinct (none_apart local.calls new.id none))
