-- The history of a cluster: the reads and writes of all objects.
use Rattle.std.specs.Prelude.{ℕ, suc, Bool, true, false, if◌then◌else◌, List, [], ◌∷◌, ◌++◌, Option, Some, None}
use Rattle.std.specs.Prelude.{option_map}
use Rattle.record.specs.declared.call.CallKind.{CallKind}
use Rattle.record.specs.declared.call.CallKind.TheVariants.{Read, Write, Move}
use Rattle.record.specs.declared.call.Entry.{Entry}
use Rattle.record.specs.declared.call.Operation.{Operation}
use Rattle.record.specs.declared.call.Operation.TheVariants as operation
use Rattle.record.specs.Journals.{entry_of}
use Rattle.record.specs.Records.{Call}
use Rattle.register.specs.Causes.{call_at}
use Rattle.cluster.specs.Accounts.{object_sum}
use Rattle.cluster.specs.Cluster.{Named, Cluster}
use Rattle.cluster.specs.Places.{if_placed}

-- whether a call belongs to a client: it is a read or a write
abbrev pub is_client : CallKind → Bool
is_client Read = true
is_client (Write value) = true
is_client Move = false

-- how many of these calls are reads or writes
abbrev pub client_count : List Call → ℕ
client_count [] = 0
client_count (call ∷ calls) = if is_client call.kind then suc (client_count calls) else client_count calls

-- how many reads and writes all objects have
abbrev pub client_calls : Cluster → ℕ
client_calls cluster = object_sum (λ o. client_count o.state.object.calls) cluster.objects

-- the entry of the call of this number of the object at this index; none if there is no such call
abbrev pub entry_of_call : Cluster → (object call : ℕ) → Option Entry
entry_of_call cluster object call = if_placed cluster object (λ o. option_map (entry_of call) (call_at o call))

-- what a client knows of a read or a write; `answered` and `told`, the value returned, are none before the answer
pub record Shown : Type 0 where
  pub object : ℕ
  pub call : ℕ
  pub kind : Operation
  pub written : Option (List ℕ)
  pub called : ℕ
  pub answered : Option ℕ
  pub told : Option (List ℕ)

-- the value that a call writes; none for a read
abbrev pub written_in : Operation → Option (List ℕ) → Option (List ℕ)
written_in operation.Read value = None
written_in operation.Write value = value
written_in operation.Move value = None

-- the value that a call returned; none before its answer
abbrev pub told_in : Option ℕ → Option (List ℕ) → Option (List ℕ)
told_in None value = None
told_in (Some step) value = value

-- what the entry of a call shows, if its object is at this index
abbrev pub shown_entry : (object : ℕ) → Entry → Shown
shown_entry object e = record {
  object = object;
  call = e.call;
  kind = e.kind;
  written = written_in e.kind e.value;
  called = e.called;
  answered = e.answered;
  told = told_in e.answered e.value;
}

-- what the reads and writes among these calls of the object at this index show; the first call has this number
abbrev pub shown_calls : (object number : ℕ) → List Call → List Shown
shown_calls object number [] = []
shown_calls object number (call ∷ calls) =
    if is_client call.kind
    then shown_entry object (entry_of number call) ∷ shown_calls object (suc number) calls
    else shown_calls object (suc number) calls

-- what the reads and writes of these objects show, where the first object is at this index
abbrev pub shown_from : (object : ℕ) → List Named → List Shown
shown_from object [] = []
shown_from object (o ∷ objects) = shown_calls object 1 o.state.object.calls ++ shown_from (suc object) objects

-- what the reads and writes of all objects show
abbrev pub history : Cluster → List Shown
history cluster = shown_from 0 cluster.objects
