-- What serving a request leaves of what a bank has recorded, and what it adds.
use Rattle.std.specs.Prelude.{◌≡◌, ℕ, ◌<◌, false, Option, Some, IsSome}
use Rattle.tag.specs.declared.tag.Tag.{Tag}
use Rattle.tag.specs.Tag.{tag_lt}
use Rattle.bank.specs.declared.kind.Kind.{Kind}
use Rattle.bank.specs.declared.reply.Answer.{Answer}
use Rattle.bank.specs.Bank.{Bank}
use Rattle.bank.specs.Knowledge.{came_by, finalized_at, arrived_at, pending_since, final_since, pointer_at}
use Rattle.bank.specs.Knowledge.{is_dropped_at, IsTrueAnswer}
use Rattle.bank.specs.Collect.{IsCollected}

-- the event happened before step `now`, if it happened at all
abbrev pub IsEarlier : Option ℕ → ℕ → Type 0
IsEarlier came now = (step : ℕ) → came ≡ Some step → step < now

-- everything that the bank has recorded happened before step `now`
pub record IsBefore (b : Bank) (now : ℕ) : Type 0 where
  pub finalized : (tag : Tag) → IsEarlier (finalized_at b tag) now
  pub arrived : (tag : Tag) → IsEarlier (arrived_at b tag) now
  pub pending : IsEarlier (pending_since b.pointer) now
  pub final : IsEarlier (final_since b.pointer) now
  pub retired : IsEarlier b.retired now

-- both banks say the same about each step before `now`
pub record SameBefore (old new : Bank) (now : ℕ) : Type 0 where
  pub finalized : (tag : Tag) (step : ℕ) → step < now
      → came_by (finalized_at new tag) step ≡ came_by (finalized_at old tag) step
  pub arrived : (tag : Tag) (step : ℕ) → step < now
      → came_by (arrived_at new tag) step ≡ came_by (arrived_at old tag) step
  pub pointer : (step : ℕ) → step < now → pointer_at new step ≡ pointer_at old step
  pub dropped : (tag : Tag) (step : ℕ) → step < now → is_dropped_at new tag step ≡ is_dropped_at old tag step

-- the tag is finalized, and no greater tag is
pub record IsGreatest (b : Bank) (tag : Tag) : Type 0 where
  pub final : IsSome (finalized_at b tag)
  pub greatest : (other : Tag) → IsSome (finalized_at b other) → tag_lt tag other ≡ false

-- serving a request at `now` kept the past, recorded no later step, answered truly, and left exactly the pieces to keep
pub record IsServed (old new : Bank) (now : ℕ) (kind : Kind) (answer : Answer) : Type 0 where
  pub past : SameBefore old new now
  pub order : (later : ℕ) → now < later → IsBefore new later
  pub truth : IsTrueAnswer new now kind answer
  pub collected : IsCollected new
