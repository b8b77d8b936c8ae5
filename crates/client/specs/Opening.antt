-- The contracts that docs/trusted.md lists do not depend on this file; other contracts and proofs do.
-- Why a store is not opened.
use Rattle.std.specs.Prelude.{ℕ, ◌==◌, nat_le, Option, None}
use Rattle.tag.specs.declared.limits.TheConstants.{MOST_SEATS, MOST_WORKERS}
use Rattle.tag.specs.declared.refusal.Refusal.{Refusal}
use Rattle.tag.specs.declared.refusal.Refusal.TheVariants.{NotNow, Full}
use Rattle.register.specs.Causes.{unless}
use Rattle.cluster.specs.Accounts.{calls}
use Rattle.cluster.specs.Cluster.{Cluster}

-- why a store is not opened: the cluster has a call, or there are too many seats or workers
abbrev pub open_store_cause : Cluster → (seats workers : ℕ) → Option Refusal
open_store_cause cluster seats workers =
    unless (calls cluster.objects == 0) NotNow
    (unless (nat_le seats MOST_SEATS) Full (unless (nat_le workers MOST_WORKERS) Full None))
