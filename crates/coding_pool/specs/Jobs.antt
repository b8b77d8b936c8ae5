-- The contracts that docs/trusted.md lists do not depend on this file; other contracts and proofs do.
-- The rule of the queue of jobs. A job's number is the point of the piece that it makes.
use Rattle.std.specs.Prelude.{◌≡◌, ℕ, ◌+◌, ◌≤◌, ◌==◌, nat_lt, List}
use Rattle.std.specs.Prelude.{[], ◌∷◌, length, sum_by, count_by, if◌then◌else◌}
use Rattle.coding_pool.specs.declared.jobs.Known.{Known}

-- what the holder of a pass knows: its parts, the number of jobs that it pushed, and the jobs that it popped
abbrev pub known : ℕ → ℕ → List ℕ → Known
known parts pushed popped = record { parts = parts; pushed = pushed; popped = popped }

-- into how many parts the right to know the whole queue is divided: one for each worker, and one for the caller
abbrev pub PARTS : ℕ
PARTS = 65

-- how often the job occurs in the list
abbrev pub times : ℕ → List ℕ → ℕ
times job jobs = count_by (λ j. j == job) jobs

-- 1 for a job below n, and otherwise 0
abbrev pub once_below : ℕ → ℕ → ℕ
once_below n job = if nat_lt job n then 1 else 0

-- a holder without a part has pushed and popped nothing
abbrev pub IsIdle : Known → Type 0
IsIdle v = v.parts ≡ 0 → (v.pushed ≡ 0) × (v.popped ≡ [])

-- each holder without a part has pushed and popped nothing
abbrev pub AreIdle : List Known → Type 0
AreIdle [] = Unit {0}
AreIdle (v ∷ vs) = IsIdle v × AreIdle vs

-- the rule: the jobs in the queue and the popped jobs of all views are the jobs below the number pushed, each once
pub record HaveEachJobOnce (items : List ℕ) (views : List Known) : Type 0 where
  pub parts : sum_by (λ v. v.parts) views ≡ PARTS
  pub each : (job : ℕ) →
      times job items + sum_by (λ v. times job v.popped) views ≡ once_below (sum_by (λ v. v.pushed) views) job
  pub count : length items + sum_by (λ v. length v.popped) views ≡ sum_by (λ v. v.pushed) views
  pub idle : AreIdle views

-- what a push teaches the holder of every part: the queue has no more jobs than it has pushed
abbrev pub HasNoMore : Known → List ℕ → Type 0
HasNoMore v items = v.parts ≡ PARTS → length items ≤ v.pushed

-- what a pop teaches the holder of every part: popped and queued jobs are those below the number pushed, each once
abbrev pub IsWhole : Known → List ℕ → Type 0
IsWhole v items = v.parts ≡ PARTS → (job : ℕ) → times job v.popped + times job items ≡ once_below v.pushed job
