-- The ids of open calls stay distinct where one call is added or changed, or some are gone.
use Rattle.std.proofs.Common.{◌≡◌, ℕ, Bool, true, false, cond, eqb, List, [], ◌∷◌, ◌++◌, refl, sym, subst, ◌∙◌, eqb-true}
use Rattle.std.specs.List.{AllByRecursion, filter}
use Rattle.open_calls.specs.OpenCalls.{NodeCall, NodeCallsDiffer, with_open}
use Rattle.open_calls.proofs.ListLemmas.{all_append}
use Rattle.open_calls.proofs.OpenCallLemmas.{all_filter}

pub distinct_push : (calls : List NodeCall) (new : NodeCall) → NodeCallsDiffer calls →
    AllByRecursion (λ call. call.id ≡ new.id → ⊥) calls → NodeCallsDiffer (calls ++ new ∷ [])
distinct_push [] new distinct apart = (tt, tt)
distinct_push (first ∷ calls) new distinct apart = (
  all_append (λ (other : NodeCall). other.id ≡ first.id → ⊥) calls (new ∷ []) distinct.0 (λ same. apart.0 (sym same), tt),
  distinct_push calls new distinct.1 apart.1,
)

pub distinct_filter : (test : NodeCall → Bool) (calls : List NodeCall) → NodeCallsDiffer calls →
    NodeCallsDiffer (filter test calls)
distinct_filter test [] distinct = tt
distinct_filter test (first ∷ calls) distinct = go (test first) (distinct_filter test calls distinct.1)
  where
    go : (b : Bool) → NodeCallsDiffer (filter test calls) → NodeCallsDiffer (cond b (first ∷ filter test calls) (filter test calls))
    go true rest = (all_filter (λ (other : NodeCall). other.id ≡ first.id → ⊥) test calls distinct.0, rest)
    go false rest = rest

-- a call that is changed keeps its id
id_with : (new first : NodeCall) → (cond (eqb first.id new.id) new first).id ≡ first.id
id_with new first = go (eqb first.id new.id) refl
  where
    go : (b : Bool) → eqb first.id new.id ≡ b → (cond b new first).id ≡ first.id
    go true s = sym (eqb-true first.id new.id s)
    go false s = refl

apart_with : (new : NodeCall) (id : ℕ) (calls : List NodeCall) → AllByRecursion (λ other. other.id ≡ id → ⊥) calls →
    AllByRecursion (λ other. other.id ≡ id → ⊥) (with_open new calls)
apart_with new id [] apart = tt
apart_with new id (first ∷ calls) apart =
    (λ same. apart.0 (sym (id_with new first) ∙ same), apart_with new id calls apart.1)

pub distinct_with : (new : NodeCall) (calls : List NodeCall) → NodeCallsDiffer calls → NodeCallsDiffer (with_open new calls)
distinct_with new [] distinct = tt
distinct_with new (first ∷ calls) distinct = (
  subst (λ id. AllByRecursion (λ (other : NodeCall). other.id ≡ id → ⊥) (with_open new calls)) (sym (id_with new first))
      (apart_with new first.id calls distinct.0),
  distinct_with new calls distinct.1,
)
