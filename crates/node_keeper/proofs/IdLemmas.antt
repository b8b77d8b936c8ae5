-- Ids that a node gives.
use Rattle.std.proofs.Common.{◌≡◌, ◌<◌, ◌^◌, inl, inr, ℕ, suc, Bool, true, false, cond, nat_lt, lt-ltb}
use Rattle.std.proofs.Common.{List, [], ◌∷◌, None, Some, refl, sym, subst, ap, arith}
use Rattle.std.proofs.lemmas.Bool.{ltb-true}
use Rattle.record.specs.Fragments.{Code}
use Rattle.deeds.specs.CallId.{CallIds, HasRanges, after_given, call_id, next_given_id, with_next_epoch}
use Rattle.deeds.specs.Named.{NamedLetter as Named}
use Rattle.deeds.specs.Kept.{KeptNode}
use Rattle.deeds.specs.Deeds.{Deed, Notice}
use Rattle.deeds.specs.Handled.{IsHandled}
use Rattle.deeds.specs.Ids.{HaveNextIds, IsLater}
use Rattle.node_effects.specs.declared.work.Work.{Work}
use Rattle.node_keeper.specs.Acts.{GivesId}
use Rattle.node_keeper.specs.NextIds.{after_next_id, next_id_of}

-- the source of ids stays within its ranges: the node, the epoch and the count fit into an id
pub ids_within : (before after : CallIds) (deeds : List Deed) → HaveNextIds before deeds after → HasRanges after
ids_within before after [] ids = ids.within
ids_within before after (deed ∷ deeds) ids = ids_within ids.0 after deeds ids.2

pub handled_within : (code : Code) (old : KeptNode) (got : List Named) (new : KeptNode) (sent : List Named)
    (notices : List Notice) → IsHandled code old got new sent notices → HasRanges new.ids
handled_within code old got new sent notices is = ids_within old.ids new.ids is.deeds is.ids

-- an epoch begins

begun_is : (ids : CallIds) → suc ids.epoch < 2 ^ 24 → with_next_epoch ids ≡ record ids { epoch = suc ids.epoch; given = 0 }
begun_is ids more =
    ap (λ b. cond b (record ids { epoch = suc ids.epoch; given = 0 }) ids) (lt-ltb (suc ids.epoch) (2 ^ 24) more)

pub begun_later : (ids : CallIds) → suc ids.epoch < 2 ^ 24 → IsLater ids (with_next_epoch ids)
begun_later ids more =
    subst (λ after. IsLater ids after) (sym (begun_is ids more))
    (record { node = refl; within = (more, omega arith); order = inl (omega arith) })

-- an id is given

pub next_is_node : (ids : CallIds) → (after_given ids).node ≡ ids.node
next_is_node ids = go (nat_lt ids.given (2 ^ 32))
  where
    go : (b : Bool) → (cond b (record ids { given = suc ids.given }) ids).node ≡ ids.node
    go true = refl
    go false = refl

pub next_epoch : (ids : CallIds) → (after_given ids).epoch ≡ ids.epoch
next_epoch ids = go (nat_lt ids.given (2 ^ 32))
  where
    go : (b : Bool) → (cond b (record ids { given = suc ids.given }) ids).epoch ≡ ids.epoch
    go true = refl
    go false = refl

-- the node stays the same as an epoch begins
pub begun_node : (ids : CallIds) → (with_next_epoch ids).node ≡ ids.node
begun_node ids = go (nat_lt (suc ids.epoch) (2 ^ 24))
  where
    go : (b : Bool) → (cond b (record ids { epoch = suc ids.epoch; given = 0 }) ids).node ≡ ids.node
    go true = refl
    go false = refl

-- the next id

-- what is given is the next id, and the source is then as after it
pub gives_next : (old : CallIds) (id : ℕ) (new : CallIds) (before after : Work) → GivesId old id new before after →
    (next_id_of old ≡ Some id) × (new ≡ after_next_id old)
gives_next old id new before after (inl is) = go (nat_lt old.given (2 ^ 32)) is.0
  where
    go : (b : Bool) → cond b (Some (call_id old.node old.epoch old.given)) None ≡ Some id →
        (next_given_id (cond b old (with_next_epoch old)) ≡ Some id) × (new ≡ after_given (cond b old (with_next_epoch old)))
    go true e = (is.0, is.1)
    go false e = absurd (cc)
gives_next old id new before after (inr is) = go (nat_lt old.given (2 ^ 32)) is.4
  where
    go : (b : Bool) → cond b (Some (call_id old.node old.epoch old.given)) None ≡ None →
        (next_given_id (cond b old (with_next_epoch old)) ≡ Some id) × (new ≡ after_given (cond b old (with_next_epoch old)))
    go true e = absurd (cc)
    go false e = (is.1, is.2)

-- if no id is left, asking for one changes nothing
pub after_none : (ids : CallIds) → next_given_id ids ≡ None → after_given ids ≡ ids
after_none ids none = go (nat_lt ids.given (2 ^ 32)) none
  where
    go : (b : Bool) → cond b (Some (call_id ids.node ids.epoch ids.given)) None ≡ None →
        cond b (record ids { given = suc ids.given }) ids ≡ ids
    go true e = absurd (cc)
    go false e = refl

no_more : (ids : CallIds) → (suc ids.epoch < 2 ^ 24 → ⊥) → with_next_epoch ids ≡ ids
no_more ids none = go (nat_lt (suc ids.epoch) (2 ^ 24)) refl
  where
    go : (b : Bool) → nat_lt (suc ids.epoch) (2 ^ 24) ≡ b → cond b (record ids { epoch = suc ids.epoch; given = 0 }) ids ≡ ids
    go true is = absurd (none (ltb-true (suc ids.epoch) (2 ^ 24) is))
    go false is = refl
