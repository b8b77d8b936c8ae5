-- The contracts that docs/trusted.md lists do not depend on this file; other contracts and proofs do.
-- The commands on the messages of an object.
use Rattle.std.specs.Prelude.{ℕ, List, Option, Some, option_map}
use Rattle.record.specs.Steps.{Step}
use Rattle.register.specs.Causes.{take_cause, lose_cause, repeat_cause}
use Rattle.register.specs.View.{took_at}
use Rattle.cluster.specs.Cluster.{Cluster, if_named}
use Rattle.cluster.specs.Steps.{with_step}
use Rattle.cluster.specs.Causes.{next, object_cause, serving_cause}
use Rattle.player.specs.declared.report.Report.{Report}
use Rattle.player.specs.Report.{done, took}
use Rattle.player.specs.Steps.{IsStepCommand, IsGrowth}

-- the request at this place is served
abbrev pub Serves : Cluster → (name : List ℕ) → (place : ℕ) → Cluster → Report → Type 0
Serves old name place new report =
    IsGrowth old (with_step old name (Step.Serve place)) (object_cause old name (serving_cause old place))
    (Some done) new report

-- the report of what the call would do with the reply at this place; none if no object has this name
abbrev pub next_take : Cluster → (name : List ℕ) → (place : ℕ) → Option Report
next_take cluster name place =
    option_map took (if_named cluster name (λ object. Some (took_at object place)))

-- the reply at this place is taken by its call
abbrev pub Takes : Cluster → (name : List ℕ) → (place : ℕ) → Cluster → Report → Type 0
Takes old name place new report =
    IsStepCommand old (with_step old name (Step.Take place))
    (object_cause old name (λ object. take_cause (next old) object place))
    (next_take old name place) new report

-- the message at this place is lost
abbrev pub Loses : Cluster → (name : List ℕ) → (place : ℕ) → Cluster → Report → Type 0
Loses old name place new report =
    IsStepCommand old (with_step old name (Step.Lose place))
    (object_cause old name (λ object. lose_cause (next old) object place))
    (Some done) new report

-- a copy of the message at this place is put at the end of the mail
abbrev pub Repeats : Cluster → (name : List ℕ) → (place : ℕ) → Cluster → Report → Type 0
Repeats old name place new report =
    IsGrowth old (with_step old name (Step.Repeat place))
    (object_cause old name (λ object. repeat_cause (next old) object place))
    (Some done) new report
