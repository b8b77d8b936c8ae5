-- The contracts that docs/trusted.md lists do not depend on this file; other contracts and proofs do.
-- What a command of one step does to a cluster, and what it reports.
use Rattle.std.specs.Prelude.{◌≡◌, ◌⊎◌, ℕ, ◌+◌, Option, Some, None}
use Rattle.tag.specs.Cause.{IsRefusalBy}
use Rattle.tag.specs.declared.refusal.Refusal.{Refusal}
use Rattle.cluster.specs.Accounts.{stored_all}
use Rattle.cluster.specs.Cluster.{Cluster}
use Rattle.player.specs.declared.report.Report.{Report}
use Rattle.player.specs.Report.{freed, refused}

-- the command is refused, and the cluster is unchanged
abbrev pub IsRefusedCommand : (old : Cluster) → Refusal → (new : Cluster) → Report → Type 0
IsRefusedCommand old refusal new report = (new ≡ old) × (report ≡ refused refusal)

-- there is no cause of refusal, the step is made and this is reported; or the command is refused by its cause
abbrev pub IsStepCommand : (old made : Cluster) → (cause : Option Refusal) → (told : Option Report) →
    (new : Cluster) → Report → Type 0
IsStepCommand old made cause told new report =
    ((cause ≡ None) × (new ≡ made) × (told ≡ Some report))
    ⊎ ((refusal : Refusal) × (cause ≡ Some refusal) × IsRefusedCommand old refusal new report)

-- the step is made and this many bytes are reported, by which all servers store less; or the command is refused by its
-- cause
abbrev pub IsFreeing : (old made : Cluster) → (cause : Option Refusal) → (new : Cluster) → Report → Type 0
IsFreeing old made cause new report =
    ((bytes : ℕ) × (cause ≡ None) × (new ≡ made) × (stored_all new + bytes ≡ stored_all old) × (report ≡ freed bytes))
    ⊎ ((refusal : Refusal) × (cause ≡ Some refusal) × IsRefusedCommand old refusal new report)

-- the step is made and this is reported; or the command is refused, by its cause or for want of memory
abbrev pub IsGrowth : (old made : Cluster) → (cause : Option Refusal) → (told : Option Report) →
    (new : Cluster) → Report → Type 0
IsGrowth old made cause told new report =
    ((cause ≡ None) × (new ≡ made) × (told ≡ Some report))
    ⊎ ((refusal : Refusal) × IsRefusalBy cause refusal × IsRefusedCommand old refusal new report)
