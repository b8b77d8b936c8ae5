-- The contracts that docs/trusted.md lists do not depend on this file; other contracts and proofs do.
-- What the program writes about an object.
use Rattle.std.specs.Prelude.{◌≡◌, ◌⊎◌, ℕ, ◌+◌, ◌-◌, ◌^◌, min, ⊤, List, Option, Some, None, Result, Ok, Err}
use Rattle.std.specs.Io.KnownBytes.{Appends, Keeps}
use Rattle.tag.specs.declared.refusal.Refusal.{Refusal}
use Rattle.tag.specs.declared.refusal.Refusal.TheVariants.{NoMemory, NoObject}
use Rattle.record.specs.Journals.{entries}
use Rattle.register.specs.State.{State}
use Rattle.cluster.specs.Causes.{object_cause}
use Rattle.cluster.specs.Cluster.{Cluster, named}
use Rattle.trace.specs.CostLines.{costs_text}
use Rattle.exports.specs.declared.event.Event.{Event}
use Rattle.exports.specs.Event.{IsHistory}
use Rattle.exports.specs.Edn.{edn_text}
use Rattle.exports.specs.Json.{json_text}
use Rattle.trace.specs.declared.fault.Fault.{Fault}
use Rattle.trace.specs.declared.fault.Fault.TheVariants as fault
use Rattle.trace.specs.declared.request.Form.{Form}
use Rattle.trace.specs.declared.request.Form.TheVariants as form

-- the number of the step after the last one, at which open calls end in a history
abbrev pub behind : State → ℕ
behind state = min (state.last + 1) (2 ^ 64 - 1)

-- what is written is the object in this form; nothing is claimed about a picture
abbrev pub ShowsObject : Form → State → (old new : Option (List ℕ)) → Type 0
ShowsObject form.Picture state old new = ⊤
ShowsObject form.Edn state old new =
    (events : List Event) × IsHistory (entries state.object) (behind state) events × Appends old new (edn_text events)
ShowsObject form.Json state old new =
    (events : List Event) × IsHistory (entries state.object) (behind state) events × Appends old new (json_text events)
ShowsObject form.Costs state old new = Appends old new (costs_text state.object (entries state.object))

-- the fault is that memory is refused
abbrev pub IsWant : Fault → Type 0
IsWant why = why ≡ fault.Refused NoMemory

-- the fault is that memory is refused or that the output is lost
abbrev pub IsLoss : Fault → Type 0
IsLoss why = IsWant why ⊎ (why ≡ fault.OutputLost)

-- the refusal if no object has this name; none if one has it
abbrev pub absence : Option Cluster → (name : List ℕ) → Option Refusal
absence None name = Some NoObject
absence (Some cluster) name = object_cause cluster name (λ object. None)

-- an object has this name, and it is written
abbrev pub ShowsOf : Form → Option Cluster → (name : List ℕ) → (old new : Option (List ℕ)) → Type 0
ShowsOf asked None name old new = ⊥
ShowsOf asked (Some cluster) name old new =
    (state : State) × (named cluster.objects name ≡ Some state) × ShowsObject asked state old new

-- no object has this name, and nothing is written; or one has it, and memory is refused or the output is lost
abbrev pub IsWhyNot : Option Cluster → (name : List ℕ) → (old new : Option (List ℕ)) → Fault → Type 0
IsWhyNot cluster name old new why =
    ((refusal : Refusal) × (why ≡ fault.Refused refusal) × (absence cluster name ≡ Some refusal) × Keeps old new)
    ⊎ ((absence cluster name ≡ None) × IsLoss why)

-- the object is shown, or the fault says why it is not
abbrev pub Shows : Form → Option Cluster → (name : List ℕ) → (old new : Option (List ℕ)) → Result Unit Fault → Type 0
Shows asked cluster name old new (Ok x) = ShowsOf asked cluster name old new
Shows asked cluster name old new (Err why) = IsWhyNot cluster name old new why
