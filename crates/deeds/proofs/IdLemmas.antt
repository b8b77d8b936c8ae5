-- Ids that are given one after another.
use Rattle.std.proofs.Common.{◌≡◌, ◌<◌, ◌≤◌, ◌^◌, ◌⊎◌, inl, inr, ℕ, suc, Bool, true, false, cond}
use Rattle.std.proofs.Common.{nat_lt, ltb-true, List, [], ◌∷◌, ◌++◌, map}
use Rattle.std.proofs.Common.{Option, None, Some, refl, sym, subst, ap, ◌∙◌, arith}
use Rattle.std.specs.List.{AllByRecursion}
use Rattle.deeds.specs.CallId.{CallIds, HasRanges, after_given, call_id, next_given_id}
use Rattle.local_object.specs.Events.{LocalEvent}
use Rattle.deeds.specs.Deeds.{Deed}
use Rattle.deeds.specs.Ids.{HaveNextIds, IsGiven, IsLater, IsNextId, begun_id, deed_id}

pub later_same : (ids : CallIds) → HasRanges ids → IsLater ids ids
later_same ids within = record { node = refl; within = within; order = inr (refl, omega arith) }

pub later_then : (a b c : CallIds) → IsLater a b → IsLater b c → IsLater a c
later_then a b c first second = record {
  node = second.node ∙ first.node;
  within = second.within;
  order = go first.order second.order;
}
  where
    go : (a.epoch < b.epoch) ⊎ ((a.epoch ≡ b.epoch) × (a.given ≤ b.given)) →
        (b.epoch < c.epoch) ⊎ ((b.epoch ≡ c.epoch) × (b.given ≤ c.given)) →
        (a.epoch < c.epoch) ⊎ ((a.epoch ≡ c.epoch) × (a.given ≤ c.given))
    go (inl x) (inl y) = inl (omega arith)
    go (inl x) (inr y) = let e = y.0 in inl (omega arith)
    go (inr x) (inl y) = let e = x.0 in inl (omega arith)
    go (inr x) (inr y) = let e = x.1 in let f = y.1 in inr (x.0 ∙ y.0, omega arith)

-- what the next id is where there is one
pub next_is : (ids : CallIds) (id : ℕ) → next_given_id ids ≡ Some id →
    (ids.given < 2 ^ 32) × (id ≡ call_id ids.node ids.epoch ids.given) × (after_given ids ≡ record ids { given = suc ids.given })
next_is ids id e = go (nat_lt ids.given (2 ^ 32)) refl e
  where
    go : (b : Bool) → nat_lt ids.given (2 ^ 32) ≡ b →
        cond b (Some (call_id ids.node ids.epoch ids.given)) None ≡ Some id →
        (ids.given < 2 ^ 32) × (id ≡ call_id ids.node ids.epoch ids.given)
        × (cond b (record ids { given = suc ids.given }) ids ≡ record ids { given = suc ids.given })
    go true t e = (ltb-true ids.given (2 ^ 32) t, cc, refl)
    go false t e = absurd (cc)

pub next_later : (before after : CallIds) (id : ℕ) → IsNextId before id after → IsLater before after
next_later before after id is =
    let now = is.now in
    let next = next_is now id is.next in
    let bound = next.0 in
    let e : record now { given = suc now.given } ≡ after = sym next.2 ∙ is.left in
    subst (λ ids. IsLater before ids) e (later_then before now (record now { given = suc now.given }) is.reached
    (record { node = refl; within = (is.reached.within.0, omega arith); order = inr (refl, omega arith) }))

pub given_later : (before after : CallIds) (id : Option ℕ) → HasRanges before → IsGiven before id after → IsLater before after
given_later before after None within is = subst (λ ids. IsLater before ids) is (later_same before within)
given_later before after (Some id) within is = next_later before after id is

-- ids that are the next ones after a later time are so after an earlier one
pub ids_from : (before now after : CallIds) (deeds : List Deed) → IsLater before now → HaveNextIds now deeds after →
    HaveNextIds before deeds after
ids_from before now after [] later ids = later_then before now after later ids
ids_from before now after (deed ∷ deeds) later ids =
    go (deed_id deed) ids.0 (λ next is rest. ids_from before next after deeds is rest) ids.1 ids.2
  where
    go : (id : Option ℕ) (next : CallIds) →
        ((next : CallIds) → IsLater before next → HaveNextIds next deeds after → HaveNextIds before deeds after) →
        IsGiven now id next → HaveNextIds next deeds after →
        (next : CallIds) × IsGiven before id next × HaveNextIds next deeds after
    go None next from same rest = (before, refl, from next (subst (λ n. IsLater before n) same later) rest)
    go (Some id) next from is rest =
        let there : IsNextId before id next = record {
          now = is.now;
          reached = later_then before now is.now later is.reached;
          next = is.next;
          left = is.left;
        } in (next, there, rest)

pub ids_append : (before now after : CallIds) (first second : List Deed) → HaveNextIds before first now →
    HaveNextIds now second after → HaveNextIds before (first ++ second) after
ids_append before now after [] second a b = ids_from before now after second a b
ids_append before now after (deed ∷ first) second a b = (a.0, a.1, ids_append a.0 now after first second a.2 b)

-- all are of one node
given_node : (before after : CallIds) (id : Option ℕ) → IsGiven before id after → after.node ≡ before.node
given_node before after None is = ap (λ (ids : CallIds). ids.node) (sym is)
given_node before after (Some id) is = (next_later before after id is).node

pub ids_node : (before after : CallIds) (deeds : List Deed) → HaveNextIds before deeds after → after.node ≡ before.node
ids_node before after [] ids = ids.node
ids_node before after (deed ∷ deeds) ids =
    ids_node ids.0 after deeds ids.2 ∙ given_node before ids.0 (deed_id deed) ids.1

-- Events at one name

-- events that begin no call need no ids
pub no_ids : (name : List ℕ) (events : List LocalEvent) (before after : CallIds) →
    AllByRecursion (λ event. begun_id event ≡ None) events → IsLater before after →
    HaveNextIds before (map (Deed.Does name) events) after
no_ids name [] before after none later = later
no_ids name (event ∷ events) before after none later =
    (before, subst (λ id. IsGiven before id before) (sym none.0) refl, no_ids name events before after none.1 later)

-- an event that begins a call needs one
pub one_id : (name : List ℕ) (event : LocalEvent) (id : ℕ) (before after : CallIds) → begun_id event ≡ Some id →
    IsNextId before id after → HaveNextIds before (map (Deed.Does name) (event ∷ [])) after
one_id name event id before after begins next = (
  after,
  subst (λ i. IsGiven before i after) (sym begins) next,
  later_same after (next_later before after id next).within,
)
