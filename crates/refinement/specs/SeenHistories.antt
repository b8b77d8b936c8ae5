-- When a history is one of what clients saw: which of its calls is which of theirs, and what they were told.
use Rattle.std.specs.Prelude.{◌≡◌, ◌<◌, ◌≤◌, ℕ, List, Some, IsSome, slice_get}
use Rattle.record.specs.declared.call.Entry.{Entry}
use Rattle.record.specs.declared.call.Operation.TheVariants as operation
use Rattle.atomicity.specs.Atomic.{IsAnsweredBefore}
use Rattle.local_object.specs.declared.progress.Ended.{Ended}
use Rattle.deeds.specs.Deeds.{Notice}

-- the notice says that the call of this entry began: a call of the object of this name, with the id and the kind of the
-- entry, and if it is a write, with its value
abbrev pub IsBegunAs : (name : List ℕ) → Notice → Entry → Type 0
IsBegunAs name (Notice.Reads other id) entry =
    (other ≡ name) × (entry.call ≡ id) × (entry.kind ≡ operation.Read)
IsBegunAs name (Notice.Writes other id value) entry =
    (other ≡ name) × (entry.call ≡ id) × (entry.kind ≡ operation.Write) × (entry.value ≡ Some value)
IsBegunAs name (Notice.Moves other id layout) entry =
    (other ≡ name) × (entry.call ≡ id) × (entry.kind ≡ operation.Move)
IsBegunAs name (Notice.Tells other ended) entry = ⊥

-- A client was told this answer at this time, and the history has its call, with this answer. `begins` says when the
-- call of each entry began: this call began before this time, and was answered before each call that began after it.
pub record IsToldAt (history : List Entry) (begins : (index : ℕ) → ℕ) (time : ℕ) (ended : Ended) : Type 0 where
  pub index : ℕ
  pub entry : Entry
  pub at : slice_get history index ≡ Some entry
  pub call : entry.call ≡ ended.id
  pub kind : entry.kind ≡ ended.kind
  pub value : entry.value ≡ ended.value
  pub answered : IsSome entry.answered
  pub before : begins index < time
  pub order : (other : ℕ) (later : Entry) → slice_get history other ≡ Some later → time < begins other →
      IsAnsweredBefore entry later

-- The history is one of what clients saw of the object of this name, where a time is a place in `seen`. Each call of
-- the history began at a client, at the time that `begins` says, and is the last call of the object that began with its
-- id. No two calls of the history have the same id. And each answer that a client was told is in the history.
pub record IsHistoryOfSeen (name : List ℕ) (seen : List Notice) (history : List Entry) : Type 0 where
  pub begins : (index : ℕ) → ℕ
  pub begun : (index : ℕ) (entry : Entry) → slice_get history index ≡ Some entry →
      (notice : Notice) × (slice_get seen (begins index) ≡ Some notice) × IsBegunAs name notice entry
  pub last : (index time : ℕ) (entry other : Entry) (notice : Notice) → slice_get history index ≡ Some entry →
      slice_get seen time ≡ Some notice → IsBegunAs name notice other → other.call ≡ entry.call → time ≤ begins index
  pub distinct : (one other : ℕ) (first second : Entry) → slice_get history one ≡ Some first →
      slice_get history other ≡ Some second → first.call ≡ second.call → one ≡ other
  pub told : (time : ℕ) (ended : Ended) → slice_get seen time ≡ Some (Notice.Tells name ended) →
      IsToldAt history begins time ended
