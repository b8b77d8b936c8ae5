-- Events of one process, one after another, and the bytes that they write.
use Rattle.std.proofs.Common.{◌≡◌, ℕ, cond, eq-eqb, List, [], ◌∷◌, ◌++◌, Option, None, Some}
use Rattle.std.proofs.Common.{refl, sym, subst, ap, ◌∙◌, append_assoc, append-nil}
use Rattle.std.specs.List.{AllByRecursion, flat_map}
use Rattle.frames.specs.Frame.{frame_bytes}
use Rattle.deeds.specs.Kept.{FileOfNames}
use Rattle.open_calls.proofs.ListLemmas.{all_append, all_weaker}
use Rattle.node_strings.specs.declared.arrival.Arrival.{Arrival}
use Rattle.node_strings.specs.declared.arrival.Arrival.TheVariants as came
use Rattle.node_store.specs.Serving.{LoopEvent, Handles, Notes}
use Rattle.refinement.proofs.PlaceLemmas.{get_first}
use Rattle.processes.specs.Events.{MayHappenTo, ProcessEvent, WasWritten, number_of, processes_after}
use Rattle.processes.specs.Loops.{AreOf, WasWrittenIn, frames_in, written_in}
use Rattle.processes.specs.Processes.{Process, Processes, with_process}
use Rattle.processes.specs.Runs.{AreOfPrograms, IsOfPrograms, MayAllHappenTo, processes_run}

pub own_process : (at : ℕ → Process) (number : ℕ) (process : Process) → with_process at number process number ≡ process
own_process at number process = ap (λ b. cond b process (at number)) (eq-eqb number number refl)

-- Messages that were written

-- what was written by then was written later too
pub written_later : (processes : Processes) (event : ProcessEvent) (number : ℕ) (arrival : Option Arrival) →
    WasWritten processes number arrival → WasWritten (processes_after processes event) number arrival
written_later processes event number None was = tt
written_later processes event number (Some (came.Command client frame)) was = tt
written_later processes event number (Some (came.Left client)) was = tt
written_later processes event number (Some (came.Tick heard)) was = tt
written_later processes event number (Some (came.Message sender strings)) was =
    (was.0, get_first processes.sent _ was.0 _ was.1)

pub all_written_later : (processes : Processes) (event : ProcessEvent) (number : ℕ) (events : List LoopEvent) →
    AllByRecursion (WasWrittenIn processes number) events →
    AllByRecursion (WasWrittenIn (processes_after processes event) number) events
all_written_later processes event number events were =
    all_weaker (WasWrittenIn processes number) (WasWrittenIn (processes_after processes event) number) each events were
  where
    each : (it : LoopEvent) → WasWrittenIn processes number it → WasWrittenIn (processes_after processes event) number it
    each (Notes bytes) was = tt
    each (Handles frame effects) was = written_later processes event number _ was

-- Lists of events

pub run_then : (xs ys : List ProcessEvent) (from : Processes) →
    processes_run (xs ++ ys) from ≡ processes_run ys (processes_run xs from)
run_then [] ys from = refl
run_then (x ∷ xs) ys from = run_then xs ys (processes_after from x)

pub may_then : (names : FileOfNames) (xs ys : List ProcessEvent) (from : Processes) → MayAllHappenTo names xs from →
    MayAllHappenTo names ys (processes_run xs from) → MayAllHappenTo names (xs ++ ys) from
may_then names [] ys from first more = more
may_then names (x ∷ xs) ys from first more = (first.0, may_then names xs ys (processes_after from x) first.1 more)

pub programs_then : (number : ℕ) (xs ys : List ProcessEvent) (from : Processes) → AreOfPrograms number xs from →
    AreOfPrograms number ys (processes_run xs from) → AreOfPrograms number (xs ++ ys) from
programs_then number [] ys from first more = more
programs_then number (x ∷ xs) ys from first more = (first.0, programs_then number xs ys (processes_after from x) first.1 more)

pub written_then : (xs ys : List ProcessEvent) (from : Processes) →
    written_in (xs ++ ys) from ≡ written_in xs from ++ written_in ys (processes_run xs from)
written_then [] ys from = refl
written_then (x ∷ xs) ys from =
    let bytes = flat_map frame_bytes (frames_in (from.at (number_of x)) x) in
    ap (λ (t : List ℕ). bytes ++ t) (written_then xs ys (processes_after from x))
    ∙ sym (append_assoc bytes (written_in xs (processes_after from x)) (written_in ys (processes_run xs (processes_after from x))))

module _ (names : FileOfNames) (number : ℕ) where
  -- events of the process lead from these processes to those, and write these bytes
  pub record LeadsTo (from : Processes) (written : List ℕ) (to : Processes) : Type 0 where
    pub events : List ProcessEvent
    pub own : AreOf number events
    pub may : MayAllHappenTo names events from
    pub programs : AreOfPrograms number events from
    pub writes : written_in events from ≡ written
    pub ends : processes_run events from ≡ to

  pub leads_nowhere : (at : Processes) → LeadsTo at [] at
  leads_nowhere at = record { events = []; own = tt; may = tt; programs = tt; writes = refl; ends = refl }

  pub leads_once : (from : Processes) (event : ProcessEvent) → number_of event ≡ number → MayHappenTo names from event →
      IsOfPrograms from event →
      LeadsTo from (flat_map frame_bytes (frames_in (from.at (number_of event)) event)) (processes_after from event)
  leads_once from event own may program = record {
    events = event ∷ [];
    own = (own, tt);
    may = (may, tt);
    programs = (λ is. program, tt);
    writes = append-nil (flat_map frame_bytes (frames_in (from.at (number_of event)) event));
    ends = refl;
  }

  pub leads_on : (from between to : Processes) (xs ys : List ℕ) → LeadsTo from xs between → LeadsTo between ys to →
      LeadsTo from (xs ++ ys) to
  leads_on from between to xs ys first more = record {
    events = first.events ++ more.events;
    own = all_append (λ event. number_of event ≡ number) first.events more.events first.own more.own;
    may = may_then names first.events more.events from first.may
        (subst (λ at. MayAllHappenTo names more.events at) (sym first.ends) more.may);
    programs = programs_then number first.events more.events from first.programs
        (subst (λ at. AreOfPrograms number more.events at) (sym first.ends) more.programs);
    writes = written_then first.events more.events from
        ∙ ap (λ (t : List ℕ). t ++ written_in more.events (processes_run first.events from)) first.writes
        ∙ ap (λ at. xs ++ written_in more.events at) first.ends
        ∙ ap (λ (t : List ℕ). xs ++ t) more.writes;
    ends = run_then first.events more.events from ∙ ap (processes_run more.events) first.ends ∙ more.ends;
  }
