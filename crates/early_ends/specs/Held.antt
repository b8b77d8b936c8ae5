-- The contracts that docs/trusted.md lists do not depend on this file; other contracts and proofs do.
-- When a tag is held at a position: a call with this tag may then end, since no move and no later call misses the tag.
use Rattle.std.specs.Prelude.{◌≡◌, ℕ, ◌+◌, ◌<◌, ◌≤◌, nat_eq, List, length}
use Rattle.std.specs.List.{AllByRecursion, IsDistinct}
use Rattle.tag.specs.declared.tag.Tag.{Tag}
use Rattle.bank.specs.Bank.{Bank}
use Rattle.bank.specs.Knowledge.{HasFinalized, pointer_at}
use Rattle.bank.specs.declared.status.Status.TheVariants.{Unset}
use Rattle.record.specs.Records.{Object, layout_at, bank_at}

-- just after some step from `since` to `now`, the bank had finalized the tag and its pointer was unset
pub record HasHeld (bank : Bank) (tag : Tag) (since now : ℕ) : Type 0 where
  pub step : ℕ
  pub from : since ≤ step
  pub by : step ≤ now
  pub finalized : HasFinalized bank tag step
  pub unset : pointer_at bank step ≡ Unset

-- more than n - k members of the position held the tag, each just after some step from `since` to `now`; so one of them
-- is in both quorums of each move, that of its spread and that of its query, since two quorums share k members
pub record IsHeld (object : Object) (position : ℕ) (tag : Tag) (since now : ℕ) : Type 0 where
  pub members : List ℕ
  pub distinct : IsDistinct nat_eq members
  pub within : AllByRecursion (λ member. member < length (layout_at object position).members) members
  pub enough : length (layout_at object position).members < (layout_at object position).k + length members
  pub each : AllByRecursion (λ member. HasHeld (bank_at object position member) tag since now) members
