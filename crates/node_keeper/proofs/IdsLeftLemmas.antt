-- How many ids are left.
use Rattle.std.proofs.Common.{◌≡◌, ◌<◌, ◌≤◌, ◌+◌, ◌-◌, ◌*◌, ◌^◌, ◌↔◌, ℕ, suc, Bool, true, false, cond, nat_lt, Option, None, Some}
use Rattle.std.proofs.Common.{refl, sym, subst, ap, ◌∙◌, arith}
use Rattle.std.proofs.lemmas.Bool.{ltb-true, ltb-false}
use Rattle.deeds.specs.CallId.{CallIds, HasRanges, after_given, call_id, next_given_id, with_next_epoch}
use Rattle.deeds.proofs.IdLemmas.{next_is}
use Rattle.node_keeper.specs.NextIds.{after_next_id, ids_left, next_id_of}

-- Numbers

one_given : (epoch given : ℕ) → given < 2 ^ 32 →
    (2 ^ 32 - given) + (2 ^ 24 - suc epoch) * 2 ^ 32 ≡ 1 + ((2 ^ 32 - suc given) + (2 ^ 24 - suc epoch) * 2 ^ 32)
one_given epoch given less = omega arith

-- the next epoch has as many ids less, of which one is given
one_begun : (epoch given rest : ℕ) → suc epoch < 2 ^ 24 → given ≡ 2 ^ 32 →
    (2 ^ 32 - 0) + (2 ^ 24 - suc (suc epoch)) * 2 ^ 32 ≡ 1 + rest → (2 ^ 32 - given) + (2 ^ 24 - suc epoch) * 2 ^ 32 ≡ 1 + rest
one_begun epoch given rest less same count = omega arith

some_left : (epoch given : ℕ) → given < 2 ^ 32 → (2 ^ 32 - given) + (2 ^ 24 - suc epoch) * 2 ^ 32 ≡ 0 → ⊥
some_left epoch given less zero = absurd (omega arith)

epochs_left : (epoch given : ℕ) → suc epoch < 2 ^ 24 → (2 ^ 32 - given) + (2 ^ 24 - suc epoch) * 2 ^ 32 ≡ 0 → ⊥
epochs_left epoch given less zero = absurd (omega arith)

nothing_left : (epoch given : ℕ) → 2 ^ 32 ≤ given → 2 ^ 24 ≤ suc epoch → (2 ^ 32 - given) + (2 ^ 24 - suc epoch) * 2 ^ 32 ≡ 0
nothing_left epoch given all last = omega arith

both_bounds : (n m : ℕ) → n ≤ m → m ≤ n → n ≡ m
both_bounds n m le ge = omega arith

-- One id

-- one less is left when an id is given
abbrev IsOneLess : (before after : CallIds) → Type 0
IsOneLess before after = HasRanges after × (ids_left before ≡ 1 + ids_left after)

-- in this epoch
given_left : (ids : CallIds) (id : ℕ) → HasRanges ids → next_given_id ids ≡ Some id → IsOneLess ids (after_given ids)
given_left ids id within next =
    let less = (next_is ids id next).0 in
    let after : CallIds = record ids { given = suc ids.given } in
    let it : IsOneLess ids after = ((within.0, omega arith), one_given ids.epoch ids.given less) in
    subst (IsOneLess ids) (sym (next_is ids id next).2) it

-- in the next one
epoch_left : (ids : CallIds) (id : ℕ) → HasRanges ids → 2 ^ 32 ≤ ids.given → next_given_id (with_next_epoch ids) ≡ Some id →
    IsOneLess ids (after_given (with_next_epoch ids))
epoch_left ids id within all = go (nat_lt (suc ids.epoch) (2 ^ 24)) refl
  where
    Goal : CallIds → Type 0
    Goal middle = next_given_id middle ≡ Some id → IsOneLess ids (after_given middle)

    go : (b : Bool) → nat_lt (suc ids.epoch) (2 ^ 24) ≡ b → Goal (cond b (record ids { epoch = suc ids.epoch; given = 0 }) ids)
    go true e next =
        let more = ltb-true (suc ids.epoch) (2 ^ 24) e in
        let middle : CallIds = record ids { epoch = suc ids.epoch; given = 0 } in
        let last = given_left middle id (more, omega arith) next in
        (last.0, one_begun ids.epoch ids.given (ids_left (after_given middle)) more (both_bounds ids.given (2 ^ 32) within.1 all) last.1)
    go false e next = let less = (next_is ids id next).0 in absurd (omega arith)

pub left_after : (before : CallIds) (id : ℕ) (after : CallIds) → HasRanges before → next_id_of before ≡ Some id →
    after ≡ after_next_id before → HasRanges after × (ids_left before ≡ 1 + ids_left after)
left_after before id after within next same =
    subst (IsOneLess before) (sym same) (go (nat_lt before.given (2 ^ 32)) refl next)
  where
    go : (b : Bool) → nat_lt before.given (2 ^ 32) ≡ b → next_given_id (cond b before (with_next_epoch before)) ≡ Some id →
        IsOneLess before (after_given (cond b before (with_next_epoch before)))
    go true e next = given_left before id within next
    go false e next = epoch_left before id within (ltb-false before.given (2 ^ 32) e) next

-- No id

-- there is a next id until none is left
pub none_left : (ids : CallIds) → HasRanges ids → (next_id_of ids ≡ None) ↔ (ids_left ids ≡ 0)
none_left ids within = go (nat_lt ids.given (2 ^ 32)) refl (nat_lt (suc ids.epoch) (2 ^ 24)) refl
  where
    given : Bool → Option ℕ
    given b = cond b (Some (call_id ids.node ids.epoch ids.given)) None

    Next : (here more : Bool) → Type 0
    Next here more =
        (next_given_id (cond here ids (cond more (record ids { epoch = suc ids.epoch; given = 0 }) ids)) ≡ None) ↔ (ids_left ids ≡ 0)

    go : (here : Bool) → nat_lt ids.given (2 ^ 32) ≡ here → (more : Bool) → nat_lt (suc ids.epoch) (2 ^ 24) ≡ more → Next here more
    go true e more f = (
      λ none. absurd (let wrong : None ≡ Some (call_id ids.node ids.epoch ids.given) = sym none ∙ ap given e in cc),
      λ zero. absurd (some_left ids.epoch ids.given (ltb-true ids.given (2 ^ 32) e) zero),
    )
    go false e true f = (
      λ none. absurd (let wrong : Some (call_id ids.node (suc ids.epoch) 0) ≡ None = none in cc),
      λ zero. absurd (epochs_left ids.epoch ids.given (ltb-true (suc ids.epoch) (2 ^ 24) f) zero),
    )
    go false e false f = (
      λ none. nothing_left ids.epoch ids.given (ltb-false ids.given (2 ^ 32) e) (ltb-false (suc ids.epoch) (2 ^ 24) f),
      λ zero. ap given e,
    )
