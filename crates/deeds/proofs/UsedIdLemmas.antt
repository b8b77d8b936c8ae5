-- Ids that were given, and that no further call gets.
use Rattle.std.proofs.Common.{◌≡◌, ◌<◌, ◌≤◌, ◌⊎◌, inl, inr, ℕ, suc, Bool, true, false, cond, eqb, eq-eqb}
use Rattle.std.proofs.Common.{List, Some, sym, subst, ap, ◌∙◌, arith}
use Rattle.std.specs.List.{AllByRecursion}
use Rattle.record.specs.declared.call.Entry.{Entry}
use Rattle.deeds.specs.CallId.{CallIds, IdsDiffer, HasRanges, after_given, next_given_id}
use Rattle.deeds.specs.Ids.{IsLater, IsNextId}
use Rattle.deeds.proofs.IdLemmas.{later_same, later_then, next_is, next_later}
use Rattle.open_calls.proofs.ListLemmas.{all_weaker}

ids_differ : IdsDiffer
ids_differ node epoch number other later more a b c d e = (omega arith, omega arith, omega arith)

-- what gives ids at each node, with this at one of them
abbrev pub with_ids : (ids : ℕ → CallIds) → (number : ℕ) → CallIds → (other : ℕ) → CallIds
with_ids ids number mine other = cond (eqb other number) mine (ids other)

pub own_ids : (ids : ℕ → CallIds) (number : ℕ) (mine : CallIds) (other : ℕ) → other ≡ number →
    with_ids ids number mine other ≡ mine
own_ids ids number mine other same = ap (λ b. cond b mine (ids other)) (eq-eqb other number same)

-- the id was given by one of these, at an earlier time
pub record IsUsed (ids : ℕ → CallIds) (id : ℕ) : Type 0 where
  pub now : CallIds
  pub within : HasRanges now
  pub next : next_given_id now ≡ Some id
  pub later : IsLater (after_given now) (ids now.node)

pub used_later : (ids : ℕ → CallIds) (number : ℕ) (mine now : CallIds) → IsLater mine now → (id : ℕ) →
    IsUsed (with_ids ids number mine) id → IsUsed (with_ids ids number now) id
used_later ids number mine now later id is = record {
  now = is.now;
  within = is.within;
  next = is.next;
  later = go (eqb is.now.node number) is.later;
}
  where
    go : (b : Bool) → IsLater (after_given is.now) (cond b mine (ids is.now.node)) →
        IsLater (after_given is.now) (cond b now (ids is.now.node))
    go true l = later_then (after_given is.now) mine now l later
    go false l = l

pub used_now : (ids : ℕ → CallIds) (number : ℕ) (mine now : CallIds) (id : ℕ) → mine.node ≡ number → IsNextId mine id now →
    IsUsed (with_ids ids number now) id
used_now ids number mine now id own is = record {
  now = is.now;
  within = is.reached.within;
  next = is.next;
  later = subst (λ i. IsLater i (with_ids ids number now is.now.node)) (sym is.left)
      (subst (λ i. IsLater now i) (sym (own_ids ids number now is.now.node (is.reached.node ∙ own)))
      (later_same now (next_later mine now id is).within));
}

-- an id that is given next was not given before
pub next_unused : (ids : ℕ → CallIds) (number : ℕ) (mine now : CallIds) (id other : ℕ) → mine.node ≡ number →
    IsNextId mine id now → IsUsed (with_ids ids number mine) other → other ≡ id → ⊥
next_unused ids number mine now id other own is used same =
    let first = next_is used.now other used.next in
    let second = next_is is.now id is.next in
    let equal = ids_differ used.now.node used.now.epoch used.now.given is.now.node is.now.epoch is.now.given
    used.within.0 first.0 is.reached.within.0 second.0 (sym first.1 ∙ same ∙ second.1) in
    let there : with_ids ids number mine used.now.node ≡ mine =
    own_ids ids number mine used.now.node (equal.0 ∙ is.reached.node ∙ own) in
    let later : IsLater (record used.now { given = suc used.now.given }) mine =
    subst (λ i. IsLater i mine) first.2 (subst (λ i. IsLater (after_given used.now) i) there used.later) in
    go used.now.epoch used.now.given mine.epoch mine.given is.now.epoch is.now.given later.order is.reached.order equal.1 equal.2
  where
    go : (e g m k n l : ℕ) → (e < m) ⊎ ((e ≡ m) × (suc g ≤ k)) → (m < n) ⊎ ((m ≡ n) × (k ≤ l)) → e ≡ n → g ≡ l → ⊥
    go e g m k n l (inl x) (inl y) a b = absurd (omega arith)
    go e g m k n l (inl x) (inr y) a b = let z = y.0 in absurd (omega arith)
    go e g m k n l (inr x) (inl y) a b = let z = x.0 in absurd (omega arith)
    go e g m k n l (inr x) (inr y) a b = let z = x.1 in let w = y.1 in absurd (omega arith)

pub next_free : (ids : ℕ → CallIds) (number : ℕ) (mine now : CallIds) (id : ℕ) → mine.node ≡ number → IsNextId mine id now →
    (history : List Entry) → AllByRecursion (λ entry. IsUsed (with_ids ids number mine) entry.call) history →
    AllByRecursion (λ entry. entry.call ≡ id → ⊥) history
next_free ids number mine now id own is history used =
    all_weaker (λ (entry : Entry). IsUsed (with_ids ids number mine) entry.call) (λ (entry : Entry). entry.call ≡ id → ⊥)
    (λ entry u. next_unused ids number mine now id entry.call own is u) history used
