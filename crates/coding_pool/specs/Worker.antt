-- The contracts that docs/trusted.md lists do not depend on this file; other contracts and proofs do.
-- What a worker has done, and what its thread hands back.
use Rattle.std.specs.Prelude.{◌≡◌, ℕ, ◌≤◌, List, length, map, All, MatchResult}
use Rattle.std.specs.Prelude.{Result}
use Rattle.crossbeam_queue.specs.Passes.{view, IsPassOf}
use Rattle.tag.specs.declared.limits.TheConstants.{LONGEST_VALUE}
use Rattle.tag.specs.declared.refusal.Refusal.{Refusal}
use Rattle.tag.specs.declared.refusal.Refusal.TheVariants.{NoMemory}
use Rattle.encoder.specs.Fragment.{piece_at_point}
use Rattle.piece.specs.declared.piece.Piece.{Piece}
use Rattle.coding_pool.specs.declared.worker.CodingJob.{CodingJob}
use Rattle.coding_pool.specs.declared.worker.Worker.{Worker}
use Rattle.coding_pool.specs.Jobs.{times, once_below}

-- the point of a piece, which is the number of its job
abbrev pub point_of : Piece → ℕ
point_of p = p.point

-- the pieces are at the points below n, one at each point
abbrev pub IsEach : ℕ → List Piece → Type 0
IsEach n pieces = (job : ℕ) → times job (map point_of pieces) ≡ once_below n job

-- the value of the coding job may be encoded: k is at least 1, and the value is within the limit
pub record IsEncodableJob (errand : CodingJob) : Type 0 where
  pub some : 1 ≤ errand.k
  pub longest : length errand.value.now ≤ LONGEST_VALUE

-- a worker of the coding job: its pass is for the job's queue, and it has the value's pieces for the jobs that it
-- popped
pub record IsWorker (errand : CodingJob) (w : Worker) : Type 0 where
  pub pass : IsPassOf errand.jobs.now w.pass
  pub popped : (view w.pass).popped ≡ map point_of w.pieces.items
  pub made : All (λ p. p ≡ piece_at_point errand.value.now errand.k p.point) w.pieces.items

-- a worker of the coding job that has one part, and pushed no job
pub record IsWorkerWithOnePart (errand : CodingJob) (w : Worker) : Type 0 where
  pub worker : IsWorker errand w
  pub parts : (view w.pass).parts ≡ 1
  pub pushed : (view w.pass).pushed ≡ 0

-- what a thread may hand back: a worker with one part, or NoMemory
abbrev pub IsHandedBack : CodingJob → Result Worker Refusal → Type 0
IsHandedBack errand answer = MatchResult answer (IsWorkerWithOnePart errand) (λ r. r ≡ NoMemory)
