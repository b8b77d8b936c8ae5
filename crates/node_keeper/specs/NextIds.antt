-- Which id a node gives next, and why it gives none.
use Rattle.std.specs.Prelude.{◌≡◌, ◌<◌, ◌+◌, ◌-◌, ◌*◌, ◌^◌, ⊤, ℕ, suc, nat_lt, if◌then◌else◌, Option, None}
use Rattle.deeds.specs.CallId.{CallIds, after_given, next_given_id, with_next_epoch}
use Rattle.node_effects.specs.declared.error.NodeError.{NodeError}
use Rattle.node_effects.specs.declared.error.NodeError.TheVariants as errors

-- the next id: of this epoch if it has one more, otherwise of the next epoch; none if there is no further epoch
abbrev pub next_id_of : CallIds → Option ℕ
next_id_of ids = next_given_id (if nat_lt ids.given (2 ^ 32) then ids else with_next_epoch ids)

-- the source of ids after it gives the next id
abbrev pub after_next_id : CallIds → CallIds
after_next_id ids = after_given (if nat_lt ids.given (2 ^ 32) then ids else with_next_epoch ids)

-- how many ids can still be given: what is left of the 2^32 ids of this epoch, and all ids of the further epochs, of
-- which there are 2^24 with this one and those before
abbrev pub ids_left : CallIds → ℕ
ids_left ids = (2 ^ 32 - ids.given) + (2 ^ 24 - suc ids.epoch) * 2 ^ 32

-- why no id is given: memory is refused, or there is no id and no further epoch
abbrev pub IsNoId : CallIds → NodeError → Type 0
IsNoId ids errors.NoMemory = ⊤
IsNoId ids errors.NoMoreIds = next_id_of ids ≡ None
IsNoId ids errors.Unwritable = ⊥
IsNoId ids (errors.Refused refusal) = ⊥

-- why no epoch begins: memory is refused, or there is no further one
abbrev pub IsNoEpoch : CallIds → NodeError → Type 0
IsNoEpoch ids errors.NoMemory = ⊤
IsNoEpoch ids errors.NoMoreIds = suc ids.epoch < 2 ^ 24 → ⊥
IsNoEpoch ids errors.Unwritable = ⊥
IsNoEpoch ids (errors.Refused refusal) = ⊥
