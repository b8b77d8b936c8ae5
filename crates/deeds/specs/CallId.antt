-- The ids that a node gives its calls.
use Rattle.std.specs.Prelude.{◌≡◌, ◌+◌, ◌*◌, ◌^◌, ◌<◌, ◌≤◌, ℕ, suc, if◌then◌else◌, nat_lt, Option, None, Some}

-- the id of a call, made from the node's number, the epoch, and the number of the call in its epoch
abbrev pub call_id : (node epoch number : ℕ) → ℕ
call_id node epoch number = (node * 2 ^ 24 + epoch) * 2 ^ 32 + number

-- the source of the ids of a node's calls: the node's number, its epoch, and how many ids the epoch gave
pub record CallIds : Type 0 where
  pub node : ℕ
  pub epoch : ℕ
  pub given : ℕ

-- the next id, if the epoch has one more
abbrev pub next_given_id : CallIds → Option ℕ
next_given_id ids = if nat_lt ids.given (2 ^ 32) then Some (call_id ids.node ids.epoch ids.given) else None

-- the source after it gives an id, if the epoch has one more
abbrev pub after_given : CallIds → CallIds
after_given ids = if nat_lt ids.given (2 ^ 32) then record ids { given = suc ids.given } else ids

-- the source after the next epoch begins, if there is one more
abbrev pub with_next_epoch : CallIds → CallIds
with_next_epoch ids = if nat_lt (suc ids.epoch) (2 ^ 24) then record ids { epoch = suc ids.epoch; given = 0 } else ids

-- the epoch and the count are in their ranges
abbrev pub HasRanges : CallIds → Type 0
HasRanges ids = (ids.epoch < 2 ^ 24) × (ids.given ≤ 2 ^ 32)

-- ids are the same only if the node, the epoch and the number are the same
abbrev pub IdsDiffer : Type 0
IdsDiffer = (node epoch number other later more : ℕ) → epoch < 2 ^ 24 → number < 2 ^ 32 → later < 2 ^ 24 → more < 2 ^ 32
    → call_id node epoch number ≡ call_id other later more → (node ≡ other) × (epoch ≡ later) × (number ≡ more)
