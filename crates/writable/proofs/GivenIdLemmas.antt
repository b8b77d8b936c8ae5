-- The id that a call gets has 64 bits, and the source of ids stays within its ranges.
use Rattle.std.proofs.Common.{◌≡◌, inl, inr, ◌+◌, ◌*◌, ◌<◌, ◌^◌, ℕ, suc, Bool, true, false, cond, Some, None, nat_lt, ltb-true, refl, sym}
use Rattle.std.proofs.Common.{subst, arith}
use Rattle.std.proofs.lemmas.Option.{same_Some}
use Rattle.deeds.specs.CallId.{CallIds, HasRanges, after_given, call_id, next_given_id, with_next_epoch}
use Rattle.node_effects.specs.declared.work.Work.{Work}
use Rattle.node_keeper.specs.Acts.{GivesId}
use Rattle.node_keeper.specs.NextIds.{next_id_of}
use Rattle.node_keeper.proofs.IdLemmas.{begun_node, next_is_node}

id_small : (ids : CallIds) (id : ℕ) → HasRanges ids → ids.node < 2 ^ 8 → next_given_id ids ≡ Some id → id < 2 ^ 64
id_small ids id within node next = go (nat_lt ids.given (2 ^ 32)) refl next
  where
    go : (b : Bool) → nat_lt ids.given (2 ^ 32) ≡ b → cond b (Some (call_id ids.node ids.epoch ids.given)) None ≡ Some id → id < 2 ^ 64
    go true t e =
        let small = ltb-true ids.given (2 ^ 32) t in
        let is : call_id ids.node ids.epoch ids.given ≡ id = same_Some (call_id ids.node ids.epoch ids.given) id e in
        let epoch = within.0 in
        let value : id ≡ (ids.node * 2 ^ 24 + ids.epoch) * 2 ^ 32 + ids.given = sym is in
        omega (arith, value, small, epoch, node)
    go false t e = absurd (cc)

given_within : (ids : CallIds) → HasRanges ids → HasRanges (after_given ids)
given_within ids within = go (nat_lt ids.given (2 ^ 32)) refl
  where
    go : (b : Bool) → nat_lt ids.given (2 ^ 32) ≡ b → HasRanges (cond b (record ids { given = suc ids.given }) ids)
    go true t = (within.0, ltb-true ids.given (2 ^ 32) t)
    go false t = within

epoch_within : (ids : CallIds) → HasRanges ids → HasRanges (with_next_epoch ids)
epoch_within ids within = go (nat_lt (suc ids.epoch) (2 ^ 24)) refl
  where
    go : (b : Bool) → nat_lt (suc ids.epoch) (2 ^ 24) ≡ b → HasRanges (cond b (record ids { epoch = suc ids.epoch; given = 0 }) ids)
    go true t = (ltb-true (suc ids.epoch) (2 ^ 24) t, omega arith)
    go false t = within

pub next_small : (ids : CallIds) (id : ℕ) → HasRanges ids → ids.node < 2 ^ 8 → next_id_of ids ≡ Some id → id < 2 ^ 64
next_small ids id within node next = go (nat_lt ids.given (2 ^ 32)) next
  where
    go : (b : Bool) → next_given_id (cond b ids (with_next_epoch ids)) ≡ Some id → id < 2 ^ 64
    go true e = id_small ids id within node e
    go false e =
        id_small (with_next_epoch ids) id (epoch_within ids within) (subst (λ n. n < 2 ^ 8) (sym (begun_node ids)) node) e

-- an id was given
pub record IsGivenFit (id : ℕ) (new : CallIds) : Type 0 where
  pub small : id < 2 ^ 64
  pub node : new.node < 2 ^ 8
  pub within : HasRanges new

pub given_fit : (old : CallIds) (id : ℕ) (new : CallIds) (before after : Work) → HasRanges old → old.node < 2 ^ 8 →
    GivesId old id new before after → IsGivenFit id new
given_fit old id new before after within node (inl gives) = subst (IsGivenFit id) (sym gives.1) (record {
  small = id_small old id within node gives.0;
  node = subst (λ n. n < 2 ^ 8) (sym (next_is_node old)) node;
  within = given_within old within;
})
given_fit old id new before after within node (inr gives) =
    let next = with_next_epoch old in
    let there : next.node < 2 ^ 8 = subst (λ n. n < 2 ^ 8) (sym (begun_node old)) node in
    subst (IsGivenFit id) (sym gives.2) (record {
      small = id_small next id (epoch_within old within) there gives.1;
      node = subst (λ n. n < 2 ^ 8) (sym (next_is_node next)) there;
      within = given_within next (epoch_within old within);
    })
