-- Answers that wait tell clients answers alone, and no calls that begin.
use Rattle.std.proofs.Common.{◌≡◌, ℕ, Bool, true, false, cond, eqb, List, [], ◌∷◌, drop, Some, slice_get}
use Rattle.std.specs.List.{AllByRecursion}
use Rattle.deeds.specs.Deeds.{Notice}
use Rattle.open_calls.proofs.ListLemmas.{all_append}
use Rattle.processes.specs.Events.{ProcessEvent, first_told, is_told, noticed_by, number_of, process_after, processes_after}
use Rattle.processes.specs.Processes.{Process, Processes, WaitingAnswers}
use Rattle.processes.proofs.GivenIdLemmas.{BeginsAt}
use Rattle.processes.proofs.SeenLemmas.{id_begun, not_both, passed}

-- a client is told nothing else by these answers
abbrev pub TellOnly : List WaitingAnswers → Type 0
TellOnly answers = AllByRecursion (λ (waiting : WaitingAnswers). (place : ℕ) (notice : Notice) →
    slice_get waiting.told place ≡ Some notice → is_told notice ≡ true) answers

tell_dropped : (answers : List WaitingAnswers) → TellOnly answers → TellOnly (drop 1 answers)
tell_dropped [] all = tt
tell_dropped (first ∷ rest) all = all.1

tell_after : (process : Process) (event : ProcessEvent) → TellOnly process.answers → TellOnly (process_after process event).answers
tell_after process (ProcessEvent.Starts number read anew new copy after) all = tt
tell_after process (ProcessEvent.Notes number after) all = all
tell_after process (ProcessEvent.Handles number frame effects after) all =
    all_append (λ (waiting : WaitingAnswers). (place : ℕ) (notice : Notice) →
    slice_get waiting.told place ≡ Some notice → is_told notice ≡ true) process.answers _ all
    ((λ place notice at. passed is_told (noticed_by effects) place notice at), tt)
tell_after process (ProcessEvent.Syncs number count) all = all
tell_after process (ProcessEvent.Sends number frame) all = all
tell_after process (ProcessEvent.Tells number) all = tell_dropped process.answers all
tell_after process (ProcessEvent.Rewrites number entries) all = tt
tell_after process (ProcessEvent.Stops number) all = tt

-- the answers of each process
abbrev pub AllTellOnly : Processes → Type 0
AllTellOnly processes = (number : ℕ) → TellOnly (processes.at number).answers

pub all_tell_after : (processes : Processes) (event : ProcessEvent) → AllTellOnly processes → AllTellOnly (processes_after processes event)
all_tell_after processes event all number = go (eqb number (number_of event))
  where
    process : Process
    process = processes.at (number_of event)

    go : (b : Bool) → TellOnly (cond b (process_after process event) (processes.at number)).answers
    go true = tell_after process event (all (number_of event))
    go false = all number

-- so no call begins among the first ones
pub first_tell : (answers : List WaitingAnswers) → TellOnly answers → (place id : ℕ) → BeginsAt (first_told answers) place id → ⊥
first_tell [] all place id begins = let at = begins.1 in absurd (cc)
first_tell (first ∷ rest) all place id begins =
    absurd (not_both begins.0 (id_begun begins.0 id begins.2) (all.0 place begins.0 begins.1))
