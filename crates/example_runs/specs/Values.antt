-- The contracts that docs/trusted.md lists do not depend on this file; other contracts and proofs do.
-- What clients of a run saw, if they saw one write and then one read.
use Rattle.std.specs.Prelude.{◌≡◌, ℕ, List, Some}
use Rattle.deeds.specs.Deeds.{Notice}
use Rattle.local_object.specs.declared.progress.Ended.{Ended}
use Rattle.record.specs.declared.call.Operation.{Operation}
use Rattle.record.specs.declared.call.Operation.TheVariants as operation
use Rattle.example_tests.specs.ReadsOfProcesses.{write_then_read}

-- a client is told this answer to the call of this name, id and kind
pub record IsAnswerTo (name : List ℕ) (id : ℕ) (kind : Operation) (ended : Ended) (notice : Notice) : Type 0 where
  pub told : notice ≡ Notice.Tells name ended
  pub call : ended.id ≡ id
  pub kind_is : ended.kind ≡ kind

-- all that clients saw is that a write of this value began and was answered, and then a read of the same name began and
-- was answered with this value
pub record IsWriteThenRead (seen : List Notice) (written found : List ℕ) : Type 0 where
  pub name : List ℕ
  pub write : Ended
  pub read : Ended
  pub all : seen ≡ write_then_read name written write read
  pub is_write : write.kind ≡ operation.Write
  pub is_read : read.kind ≡ operation.Read
  pub returned : read.value ≡ Some found
