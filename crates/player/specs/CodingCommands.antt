-- The contracts that docs/trusted.md lists do not depend on this file; other contracts and proofs do.
-- The commands that supply a call with an encoded value, or settle a decoded value.
use Rattle.std.specs.Prelude.{◌≡◌, ◌⊎◌, ℕ, pred, List, length, Option, Some, None}
use Rattle.tag.specs.Cause.{IsRefusalBy}
use Rattle.tag.specs.declared.refusal.Refusal.{Refusal}
use Rattle.tag.specs.declared.refusal.Refusal.TheVariants.{NoCall, NotNow}
use Rattle.encoder.specs.Coded.{Coding, encode_cause}
use Rattle.record.specs.declared.stage.Want.{Want}
use Rattle.record.specs.declared.stage.Want.TheVariants as want
use Rattle.record.specs.Records.{Object}
use Rattle.record.specs.Steps.{Step}
use Rattle.register.specs.Causes.{supply_cause, supplying_cause}
use Rattle.register.specs.View.{want_at}
use Rattle.cluster.specs.Cluster.{Cluster}
use Rattle.cluster.specs.Steps.{with_step}
use Rattle.cluster.specs.Causes.{next, object_cause}
use Rattle.driver.specs.Coding.{settling_cause}
use Rattle.driver.specs.Rounds.{SettlesOwn}
use Rattle.player.specs.declared.report.Report.{Report}
use Rattle.player.specs.Report.{done}
use Rattle.player.specs.Steps.{IsRefusedCommand, IsGrowth}

-- the first cause, or the later one if the first is none
abbrev pub first_cause_of : Option Refusal → Option Refusal → Option Refusal
first_cause_of None later = later
first_cause_of (Some refusal) later = Some refusal

-- why a call that wants this gets no encoded bytes: there is no such call, it wants none, or they cannot be encoded
abbrev pub coding_cause : (value : List ℕ) → Option Want → Option Refusal
coding_cause value None = Some NoCall
coding_cause value (Some (want.Supply k n)) = encode_cause k n (length value)
coding_cause value (Some _) = Some NotNow

-- the bytes encoded as the call wants its value
abbrev pub coding_for : (value : List ℕ) → Option Want → Coding
coding_for value (Some (want.Supply k n)) = record { k = k; n = n; value = value }
coding_for value _ = record { k = 0; n = 0; value = value }

-- why the call of this number is not supplied with these bytes: they cannot be encoded, or the supply is refused
abbrev pub supplying_as_cause : Cluster → (call : ℕ) → (value : List ℕ) → Object → Option Refusal
supplying_as_cause cluster call value object =
    first_cause_of (coding_cause value (want_at object call))
    (supply_cause (next cluster) object call (coding_for value (want_at object call)))

-- the call of this number is supplied with these bytes, encoded as it wants its value
abbrev pub SuppliesAs : Cluster → (name : List ℕ) → (call : ℕ) → (value : List ℕ) → Cluster → Report → Type 0
SuppliesAs old name call value new report =
    IsGrowth old (with_step old name (Step.Supply (pred call)))
    (object_cause old name (supplying_as_cause old call value))
    (Some done) new report

-- the call of this number is supplied with its own value
abbrev pub Supplies : Cluster → (name : List ℕ) → (call : ℕ) → Cluster → Report → Type 0
Supplies old name call new report =
    IsGrowth old (with_step old name (Step.Supply (pred call)))
    (object_cause old name (λ object. supplying_cause (next old) object call))
    (Some done) new report

-- the call of this number settles the value that its own pieces give
abbrev pub SettlesValue : Cluster → (name : List ℕ) → (call : ℕ) → Cluster → Report → Type 0
SettlesValue old name call new report =
    ((object_cause old name (λ object. settling_cause (next old) object call) ≡ None)
    × SettlesOwn old name call new × (report ≡ done))
    ⊎ ((refusal : Refusal)
    × IsRefusalBy (object_cause old name (λ object. settling_cause (next old) object call)) refusal
    × IsRefusedCommand old refusal new report)
