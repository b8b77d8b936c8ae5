-- The calls that are answered by what a node does, and their values.
use Rattle.std.specs.Prelude.{ℕ, List, [], ◌∷◌, ◌++◌, Option, None, Some}
use Rattle.record.specs.declared.call.CallKind.{CallKind}
use Rattle.record.specs.declared.call.CallKind.TheVariants.{Read}
use Rattle.record.specs.Fragments.{Code}
use Rattle.record.specs.Journals.{operation_of, entry_value}
use Rattle.open_calls.specs.OpenCalls.{NodeCall, open_call}
use Rattle.local_object.specs.declared.progress.Ended.{Ended}
use Rattle.local_object.specs.Local.{LocalObject}
use Rattle.local_object.specs.Events.{LocalEvent, done_here}

-- what the client of an answered call is told: as in the history, a read's value is the one that it settled
abbrev pub told_of : NodeCall → Ended
told_of call = record {
  id = call.id;
  kind = operation_of call.kind;
  value = entry_value call.kind (Some 0) call.settled;
}

-- what the client of a call is told, if there is a call
abbrev pub told_if : Option NodeCall → List Ended
told_if None = []
told_if (Some call) = told_of call ∷ []

-- the value with which a call of this kind ends early: a read returns this one, and a write its own
abbrev pub early_value_of : CallKind → (value : Option (List ℕ)) → Option (List ℕ)
early_value_of Read value = value
early_value_of kind value = entry_value kind (Some 0) None

-- what the client of a call is told that ends early with this value
abbrev pub told_early : NodeCall → (value : Option (List ℕ)) → Ended
told_early call value = record {
  id = call.id;
  kind = operation_of call.kind;
  value = early_value_of call.kind value;
}

-- what the client of a call is told that ends early with this value, if there is a call
abbrev pub told_early_if : Option NodeCall → (value : Option (List ℕ)) → List Ended
told_early_if None value = []
told_early_if (Some call) value = told_early call value ∷ []

-- what clients are told when an event happens: the answer of a call that is open here
abbrev pub told : LocalObject → LocalEvent → List Ended
told local (LocalEvent.Answer id) = told_if (open_call local.calls id)
told local (LocalEvent.EndEarly id value) = told_early_if (open_call local.calls id) value
told local _ = []

-- what clients are told when these events happen, one after another
abbrev pub all_told : Code → LocalObject → List LocalEvent → List Ended
all_told fragment local [] = []
all_told fragment local (event ∷ events) =
    told local event ++ all_told fragment (done_here fragment local event).local events
