-- What is written of an object.
use Rattle.std.proofs.Common.{◌≡◌, ℕ, List, Option, Result, Ok, Err, subst}
use Rattle.std.specs.Prelude.{IfErr, MatchResult, OnOk}
use Rattle.std.specs.Io.KnownBytes.{Appends}
use Rattle.trace.specs.declared.fault.Fault.{Fault}
use Rattle.record.specs.Journals.{entries}
use Rattle.register.specs.State.{State}
use Rattle.exports.specs.declared.event.Event.{Event}
use Rattle.exports.specs.Event.{IsHistory}
use Rattle.trace.specs.Shown.{IsLoss, behind}

-- if a text was written or lost, so was each text that equals it
pub shown_as : (old new : Option (List ℕ)) (r : Result Unit Fault) (text other : List ℕ) → text ≡ other
    → OnOk r (Appends old new text) → IfErr r IsLoss → MatchResult r (λ _. Appends old new other) IsLoss
shown_as old new (Ok x) text other same shown lost = subst (Appends old new) same shown
shown_as old new (Err why) text other same shown lost = lost

-- the text of a history was written, or lost
pub events_shown : (text : List Event → List ℕ) (state : State) (old new : Option (List ℕ)) (r : Result Unit Fault)
    (items events : List Event) → items ≡ events → IsHistory (entries state.object) (behind state) events
    → OnOk r (Appends old new (text items)) → IfErr r IsLoss
    → MatchResult r (λ _. (es : List Event) × IsHistory (entries state.object) (behind state) es × Appends old new (text es)) IsLoss
events_shown text state old new (Ok x) items events same history shown lost =
    (events, history, subst (λ (es : List Event). Appends old new (text es)) same shown)
events_shown text state old new (Err why) items events same history shown lost = lost
