-- The contracts that docs/trusted.md lists do not depend on this file; other contracts and proofs do.
-- What a client reads after a write was answered, whatever the processes of the cluster do and wherever they stop.
use Rattle.std.specs.Prelude.{◌≡◌, ◌⊎◌, ◌<◌, ℕ, List, [], ◌∷◌, Option, Some, slice_get}
use Rattle.record.specs.declared.call.Operation.TheVariants as operation
use Rattle.local_object.specs.declared.progress.Ended.{Ended}
use Rattle.deeds.specs.Deeds.{Notice}
use Rattle.processes.specs.Processes.{Processes}
use Rattle.processes.specs.Runs.{AreReached}

-- Of the object of this name clients saw, in this order, that a write was answered, and that a read began. The read was
-- answered too. A time is a place in `seen`.
pub record IsReadAfterWrite (name : List ℕ) (seen : List Notice) (write read : Ended) : Type 0 where
  pub is_write : write.kind ≡ operation.Write
  pub is_read : read.kind ≡ operation.Read
  pub told : ℕ
  pub began : ℕ
  pub answered : ℕ
  pub write_told : slice_get seen told ≡ Some (Notice.Tells name write)
  pub read_began : slice_get seen began ≡ Some (Notice.Reads name read.id)
  pub read_told : slice_get seen answered ≡ Some (Notice.Tells name read)
  pub after : told < began

-- The value is that of a write which began before the second time, and which no client was told to be done before the
-- first time.
pub record IsWrittenBetween (name : List ℕ) (seen : List Notice) (value : Option (List ℕ)) (first second : ℕ) :
    Type 0 where
  pub id : ℕ
  pub written : List ℕ
  pub time : ℕ
  pub began : slice_get seen time ≡ Some (Notice.Writes name id written)
  pub same : value ≡ Some written
  pub before : time < second
  pub not_before : (at : ℕ) (ended : Ended) → slice_get seen at ≡ Some (Notice.Tells name ended) → ended.id ≡ id →
      first < at

-- The answered write began, with this value. The read returns this value, or that of another write, which was not
-- answered before this one began, and began before the read was answered.
pub record ReturnsWritten (name : List ℕ) (seen : List Notice) (write read : Ended) (told answered : ℕ) : Type 0 where
  pub value : List ℕ
  pub wrote : write.value ≡ Some value
  pub time : ℕ
  pub began : slice_get seen time ≡ Some (Notice.Writes name write.id value)
  pub before : time < told
  pub returns : (read.value ≡ Some value) ⊎ IsWrittenBetween name seen read.value time answered

-- whatever the processes of a cluster do, a read that began after a write was answered returns what was written
abbrev pub AnsweredWritesAreRead : Type 0
AnsweredWritesAreRead = (processes : Processes) (name : List ℕ) (write read : Ended) → AreReached processes →
    (saw : IsReadAfterWrite name processes.seen write read) →
    ReturnsWritten name processes.seen write read saw.told saw.answered

-- all that clients see in the example: a write begins and is answered, and then a read begins and is answered
abbrev pub write_then_read : (name value : List ℕ) → (write read : Ended) → List Notice
write_then_read name value write read =
    Notice.Writes name write.id value ∷ Notice.Tells name write
    ∷ Notice.Reads name read.id ∷ Notice.Tells name read ∷ []

-- if this is all that clients saw, the read returned the value of the write, whatever the processes did meanwhile
abbrev pub OnlyWriteIsRead : Type 0
OnlyWriteIsRead = (processes : Processes) (name value : List ℕ) (write read : Ended) → AreReached processes →
    processes.seen ≡ write_then_read name value write read →
    write.kind ≡ operation.Write → read.kind ≡ operation.Read → read.value ≡ Some value
