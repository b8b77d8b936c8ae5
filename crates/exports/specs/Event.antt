-- The contracts that docs/trusted.md lists do not depend on this file; other contracts and proofs do.
-- The events of a history.
use Rattle.std.specs.Prelude.{ℕ, List, [], ◌∷◌, Option, Some, None}
use Rattle.std.specs.List.{flat_map, zip}
use Rattle.std.specs.List.Sorted.{IsNonDecreasingBy, IsPermutation}
use Rattle.record.specs.declared.call.Entry.{Entry}
use Rattle.record.specs.declared.call.Operation.{Operation}
use Rattle.record.specs.declared.call.Operation.TheVariants as operation
use Rattle.exports.specs.declared.event.Event.{Event}
use Rattle.exports.specs.declared.event.Process.{Process}
use Rattle.exports.specs.declared.event.Stage.{Stage}
use Rattle.exports.specs.declared.event.Stage.TheVariants as stage
use Rattle.exports.specs.Clients.{AreProcesses}

-- the stage of the event that begins a call
abbrev pub stage_of_begin : Operation → Stage
stage_of_begin operation.Read = stage.Invoke
stage_of_begin operation.Write = stage.Invoke
stage_of_begin operation.Move = stage.Info

-- the value of the event that begins a call; none for a read
abbrev pub value_of_begin : Operation → Option (List ℕ) → Option (List ℕ)
value_of_begin operation.Read value = None
value_of_begin operation.Write value = value
value_of_begin operation.Move value = value

-- the stage of a read or a write at its end: complete if it was answered, and open otherwise
abbrev pub stage_of_answer : Option ℕ → Stage
stage_of_answer None = stage.Info
stage_of_answer (Some step) = stage.Complete

-- the stage of the event that ends a call
abbrev pub stage_of_end : Operation → Option ℕ → Stage
stage_of_end operation.Read answered = stage_of_answer answered
stage_of_end operation.Write answered = stage_of_answer answered
stage_of_end operation.Move answered = stage.Info

-- the step of the event that ends a call: that of its answer, or `end` if it has none
abbrev pub step_of_end : (end : ℕ) → Option ℕ → ℕ
step_of_end end None = end
step_of_end end (Some step) = step

-- the event that begins the call of this entry
abbrev pub begin_event : Entry → Process → Event
begin_event entry process = record {
  step = entry.called;
  process = process;
  call = entry.call;
  kind = entry.kind;
  stage = stage_of_begin entry.kind;
  value = value_of_begin entry.kind entry.value;
}

-- the event that ends the call of this entry: at its answer, or at the step `end` if it is open
abbrev pub end_event : (end : ℕ) → Entry → Process → Event
end_event end entry process = record {
  step = step_of_end end entry.answered;
  process = process;
  call = entry.call;
  kind = entry.kind;
  stage = stage_of_end entry.kind entry.answered;
  value = entry.value;
}

-- the two events of the call of this entry
abbrev pub ends_of : (end : ℕ) → Entry × Process → List Event
ends_of end made = begin_event made.0 made.1 ∷ end_event end made.0 made.1 ∷ []

-- the events are two for each entry, with the entry's own value, in the order of their steps; no process has two calls
-- at once
pub record IsHistory (entries : List Entry) (end : ℕ) (events : List Event) : Type 0 where
  pub processes : List Process
  pub apart : AreProcesses entries processes
  pub each_once : IsPermutation (flat_map (ends_of end) (zip entries processes)) events
  pub in_order : IsNonDecreasingBy (λ event. event.step) events
