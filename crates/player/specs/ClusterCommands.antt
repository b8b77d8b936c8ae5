-- The contracts that docs/trusted.md lists do not depend on this file; other contracts and proofs do.
-- The commands on layouts, objects and servers.
use Rattle.std.specs.Prelude.{◌≡◌, ◌⊎◌, ℕ, ◌-◌, ◌^◌, ◌<◌, min, nat_lt, Bool, false, List, length, Option, Some}
use Rattle.std.specs.List.{list_all}
use Rattle.tag.specs.declared.limits.TheConstants.{MOST_MEMBERS}
use Rattle.tag.specs.declared.refusal.Refusal.TheVariants.{BadLayout}
use Rattle.layout.specs.Layout.{Layout, IsLawful}
use Rattle.record.specs.Steps.{Step}
use Rattle.register.specs.Retiring.{retire_cause}
use Rattle.cluster.specs.Cluster.{Cluster}
use Rattle.cluster.specs.Steps.{with_step, with_layout, with_server, created}
use Rattle.cluster.specs.Causes.{next, object_cause, layout_cause, create_cause, server_cause}
use Rattle.player.specs.declared.report.Report.{Report}
use Rattle.player.specs.Report.{done, added_layout}
use Rattle.player.specs.Steps.{IsRefusedCommand, IsStepCommand, IsGrowth, IsFreeing}

-- there are more members than a layout may have, or one of them is no server
abbrev pub AreBadMembers : List ℕ → (servers : ℕ) → Type 0
AreBadMembers members servers =
    (MOST_MEMBERS < length members) ⊎ (list_all (λ member. nat_lt member servers) members ≡ false)

-- the layout is not lawful, or one of its members is no server
abbrev pub IsBadLayout : Layout → (servers : ℕ) → Type 0
IsBadLayout layout servers = (¬ (IsLawful layout)) ⊎ (list_all (λ member. nat_lt member servers) layout.members ≡ false)

-- the numbers are the threshold and the members of a lawful layout, and it is added or refused; or they are not, and
-- the command is refused with BadLayout
abbrev pub AddsLayout : Cluster → (k : ℕ) → (members : List ℕ) → Cluster → Report → Type 0
AddsLayout old k members new report =
    let layout : Layout = record { k = k; members = members } in
    (IsLawful layout × IsGrowth old (with_layout old layout) (layout_cause old layout)
    (Some (added_layout (length old.layouts))) new report)
    ⊎ (IsBadLayout layout (length old.servers) × IsRefusedCommand old BadLayout new report)

-- a number as that of a layout; one above 32 bits becomes the greatest number of 32 bits, which no layout has
abbrev pub layout_number : (number : ℕ) → ℕ
layout_number number = min number (2 ^ 32 - 1)

-- an object of this name is created with the layout of this number; its banks keep `delta` finalized versions besides
-- the newest
abbrev pub MakesObject : Cluster → (name : List ℕ) → (layout : ℕ) → (delta : Option ℕ) → Cluster → Report → Type 0
MakesObject old name layout delta new report = IsGrowth old (created old name (layout_number layout) delta)
    (create_cause old name (layout_number layout)) (Some done) new report

-- this position of the object of this name, which must be its base, is retired
abbrev pub Retires : Cluster → (name : List ℕ) → (position : ℕ) → Cluster → Report → Type 0
Retires old name position new report =
    IsFreeing old (with_step old name Step.Retire)
    (object_cause old name (λ object. retire_cause (next old) object position)) new report

-- the server of this number goes up or down
abbrev pub SetsServer : Cluster → (server : ℕ) → (up : Bool) → Cluster → Report → Type 0
SetsServer old server up new report =
    IsStepCommand old (with_server old server up) (server_cause old server) (Some done) new report
