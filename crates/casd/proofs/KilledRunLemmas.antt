-- A whole run of the program, as events of its process, whatever it returns.
use Rattle.std.proofs.Common.{◌≡◌, ℕ, List, [], ◌∷◌, ◌++◌, Some, Result, Ok, Err, refl, sym, subst, inl, inr, append-nil}
use Rattle.std.specs.Io.KnownBytes.{Appends}
use Rattle.deeds.specs.Kept.{FileOfNames}
use Rattle.node.specs.declared.node.Node.{Node}
use Rattle.node_store.specs.Outputs.{AppendsFront}
use Rattle.node_store.specs.Rounds.{BetweenRounds}
use Rattle.node_store.specs.Serving.{LoopEvent}
use Rattle.node_store.specs.declared.end.LogEnd.{LogEnd}
use Rattle.processes.specs.Events.{ProcessEvent}
use Rattle.processes.specs.Interleaved.{GoesOnAmongOthers, HaveEventsAmongOthers, IsLeftBehind, ServesAmongOthers, SessionStep}
use Rattle.processes.specs.Interleaved.{SessionsAreEvents, StoppedSessionsAreEvents, UnexchangedSessionsAreEvents}
use Rattle.processes.specs.Interleaved.{after_step, written_by}
use Rattle.processes.specs.Loops.{HaveEvents, IsBetweenRounds}
use Rattle.processes.specs.Processes.{Process, Processes}
use Rattle.processes.specs.Programs.{IsNewAndIdle, StartsAreEvents}
use Rattle.processes.specs.Runs.{AreReached, processes_run}
use Rattle.processes.specs.StoppedStarts.{IsStoppedWith, StoppedStartsAreEvents}
use Rattle.casd.specs.Kills.{EndsSession, HaveSilentEvents, LeavesAfterStart, LeavesRun, LeavesSession, MayBeStarted}
use Rattle.casd.specs.Kills.{ReadsAtEnd}
use Rattle.casd.specs.Program.{HasNotStarted, HasOnlyStarted, HasRun, HasServed, HasStartedAndServed}
use Rattle.casd.specs.declared.fault.Fault.{Fault}
use Rattle.casd.specs.declared.fault.Fault.TheVariants as faults
use Rattle.casd.proofs.CutLemmas.{Known}
use Rattle.casd.proofs.KillLemmas.{bad_start, good_start, rests_left}
use Rattle.casd.proofs.SessionLemmas.{at}

-- What is told of the end of a session

module _ (names : FileOfNames) (number : ℕ) (from : Processes) (held : Known) (P Q : List ProcessEvent → Type 0)
    (weaker : (all : List ProcessEvent) → P all → Q all) where
  serves_otherwise : (steps : List SessionStep) (now : BetweenRounds Node) (done : List ProcessEvent) →
      ServesAmongOthers names number from held steps now done P → ServesAmongOthers names number from held steps now done Q
  serves_otherwise [] now done (at, holds) = (at, weaker done holds)
  serves_otherwise (step ∷ steps) now done (at, goes) = (
    at,
    λ others are may brings.
        let went = goes others are may brings in
        (went.0, went.1, went.2, went.3, serves_otherwise steps (after_step step) ((done ++ others) ++ went.0) went.4),
  )

-- what holds of the bytes that were written and of the process holds as it is told otherwise
ended_otherwise : (names : FileOfNames) (number : ℕ) (from : Processes) (first : BetweenRounds Node)
    (Ends : BetweenRounds Node → Type 0) (AreRead : BetweenRounds Node → List LoopEvent → Type 0)
    (P Q : (written : List ℕ) → Process → Type 0) →
    ((written : List ℕ) (process : Process) → P written process → Q written process) →
    HaveEventsAmongOthers names number from first Ends AreRead P → HaveEventsAmongOthers names number from first Ends AreRead Q
ended_otherwise names number from first Ends AreRead P Q weaker have = record {
  steps = have.steps;
  last = have.last;
  taken = have.taken;
  ends = have.ends;
  among = serves_otherwise names number from first.held
      (λ done. GoesOnAmongOthers names number from done (AreRead have.last)
      (λ all. P (written_by number all from) ((processes_run all from).at number)))
      (λ done. GoesOnAmongOthers names number from done (AreRead have.last)
      (λ all. Q (written_by number all from) ((processes_run all from).at number)))
      (λ done goes others are may brings.
      let went = goes others are may brings in (went.0, went.1, went.2, went.3, weaker _ _ went.4))
      have.steps first [] have.among;
}

-- all that was written is a front of it
all_written : (old new : Known) (bytes : List ℕ) → Appends old new bytes → AppendsFront old new bytes
all_written old new bytes all = (bytes, [], sym (append-nil bytes), all)

-- a process that rests has left all
left_all : (held holds keeps : Known) (node : Node) (chain : ℕ) (written : List ℕ) (process : Process) →
    Appends held holds written → IsBetweenRounds process node chain keeps → IsLeftBehind held holds keeps written process
left_all held holds keeps node chain written process all rests =
    (all_written held holds written all, rests_left process node chain keeps rests)

-- The start, and what follows

-- events that write nothing, and what holds then of all processes
silent : (names : FileOfNames) (number : ℕ) (processes : Processes) (P : Process → Type 0) (Holds : Processes → Type 0) →
    ((started : Processes) → P (started.at number) → Holds started) →
    HaveEvents names number processes (λ written process. (written ≡ []) × P process) →
    HaveSilentEvents names number processes Holds
silent names number processes P Holds then have = record {
  events = have.events;
  own = have.own;
  may = have.may;
  programs = have.programs;
  silent = have.holds.0;
  holds = then (processes_run have.events processes) have.holds.1;
}

module _ (starts : StartsAreEvents) (stops : StoppedStartsAreEvents) (ends : SessionsAreEvents)
    (breaks : StoppedSessionsAreEvents) (halves : UnexchangedSessionsAreEvents) where
  -- what the loop did behind a start, whatever it returned
  served_events : (T : Type 0) (names : FileOfNames) (number : ℕ) (from : Processes) (bytes : List ℕ) (first : BetweenRounds Node)
      (new : Node) (left keeps holds : Known) (result : Result T Fault) → first.left ≡ Some bytes →
      IsBetweenRounds (from.at number) first.machine first.chain first.kept →
      HasServed first new left keeps holds result →
      HaveEventsAmongOthers names number from first (λ last. EndsSession last new left keeps holds result)
      (λ last. ReadsAtEnd last.left left result) (IsLeftBehind first.held holds keeps)
  served_events T names number from bytes first new left keeps holds (Ok done) known rests serves =
      ended_otherwise names number from first _ _
      (λ written process. Appends first.held holds written × ((then : ℕ) × IsBetweenRounds process new then keeps))
      (IsLeftBehind first.held holds keeps)
      (λ written process ended. left_all first.held holds keeps new ended.1.0 written process ended.0 ended.1.1)
      (ends names number from first bytes new left keeps holds known rests serves)
  served_events T names number from bytes first new left keeps holds (Err (faults.Ended error)) known rests serves =
      breaks names number from first bytes new left keeps holds error known rests serves
  served_events T names number from bytes first new left keeps holds (Err (faults.NotExchanged error)) known rests serves =
      ended_otherwise names number from first _ _
      (λ written process. Appends first.held holds written
      × ((node : Node) × (then : ℕ) × IsBetweenRounds process node then keeps))
      (IsLeftBehind first.held holds keeps)
      (λ written process ended. left_all first.held holds keeps ended.1.0 ended.1.1 written process ended.0 ended.1.2)
      (halves names number from first bytes left keeps holds known rests serves)
  served_events T names number from bytes first new left keeps holds (Err _) known rests serves = absurd serves

  -- what was served behind a start
  served : (T : Type 0) (names : FileOfNames) (number : ℕ) (from : Processes) (bytes : List ℕ) (started : Node) (end : LogEnd)
      (kept held : Known) (new : Node) (left keeps holds : Known) (result : Result T Fault) →
      IsBetweenRounds (from.at number) started end.chain.state kept →
      HasServed (at end started (Some bytes) kept held) new left keeps holds result →
      LeavesSession names number from (Some bytes) held new keeps holds result
  served T names number from bytes started end kept held new left keeps holds result rests serves = record {
    first = at end started (Some bytes) kept held;
    left_is = refl;
    held_is = refl;
    rests = rests;
    left = left;
    served = served_events T names number from bytes (at end started (Some bytes) kept held) new left keeps holds result
        refl rests serves;
  }

  module _ (T : Type 0) (old : Node) (found before : Known) (bytes : List ℕ) (held : Known) (new : Node) (keeps holds : Known)
      (processes : Processes) (reached : AreReached processes) (number : ℕ)
      (may : MayBeStarted (processes.at number) found before) where
    abbrev After : Result T Fault → Processes → Type 0
    After result started = LeavesAfterStart reached.names number started (Some bytes) held new keeps holds result

    -- the start failed
    not_started : (fault : Fault) →
        ((started : Processes) → (holds ≡ held) × IsStoppedWith (started.at number) keeps → After (Err fault) started) →
        HasNotStarted reached.names number found before held keeps holds fault →
        HaveSilentEvents reached.names number processes (After (Err fault))
    not_started fault then (failed, same) =
        silent reached.names number processes (λ process. IsStoppedWith process keeps) (After (Err fault))
        (λ started stopped. then started (same, stopped))
        (bad_start stops processes reached number found before keeps fault may failed)

    -- the start succeeded, and then the program served
    started_and_served : (result : Result T Fault) →
        ((from : Processes) → LeavesSession reached.names number from (Some bytes) held new keeps holds result →
        After result from) → HasStartedAndServed reached.names number found (Some bytes) held new keeps holds result →
        HaveSilentEvents reached.names number processes (After result)
    started_and_served result then (started, end, kept, left, start, serves) =
        silent reached.names number processes (λ process. IsBetweenRounds process started end.chain.state kept) (After result)
        (λ from rests. then from
        (served T reached.names number from bytes started end kept held new left keeps holds result rests serves))
        (good_start starts processes reached number found before started end kept may start)

    -- the start succeeded, and then nothing was done
    only_started : HasOnlyStarted reached.names number found held new keeps holds →
        HaveSilentEvents reached.names number processes (After (Err faults.NoMemory))
    only_started (end, start, same) =
        silent reached.names number processes (λ process. IsBetweenRounds process new end.chain.state keeps)
        (After (Err faults.NoMemory)) (λ from rests. (same, rests_left (from.at number) new end.chain.state keeps rests))
        (good_start starts processes reached number found before new end keeps may start)

    -- what the program did is told by its result
    pub run_events : (result : Result T Fault) → HasRun reached.names number found before (Some bytes) held new keeps holds result →
        HaveSilentEvents reached.names number processes (After result)
    run_events (Ok done) run = started_and_served (Ok done) (λ from leaves. leaves) run
    run_events (Err (faults.Ended error)) run = started_and_served (Err (faults.Ended error)) (λ from leaves. leaves) run
    run_events (Err (faults.NotExchanged error)) (inl run) =
        started_and_served (Err (faults.NotExchanged error)) (λ from leaves. inl leaves) run
    run_events (Err (faults.NotExchanged error)) (inr failed) =
        not_started (faults.NotExchanged error) (λ started stopped. inr (stopped.0, stopped.1.1)) failed
    run_events (Err faults.NoMemory) (inl run) = only_started run
    run_events (Err faults.NoMemory) (inr failed) =
        not_started faults.NoMemory (λ started stopped. (stopped.0, stopped.1.1)) failed
    run_events (Err _) failed = not_started _ (λ started stopped. (stopped.0, stopped.1.1)) failed

  -- whatever a run returned
  pub run_leaves : (T : Type 0) (old : Node) (found before input held : Known) (new : Node) (keeps holds : Known)
      (result : Result T Fault) →
      ((names : FileOfNames) (number : ℕ) → IsNewAndIdle names number old →
      HasRun names number found before input held new keeps holds result) →
      LeavesRun old found before input held new keeps holds result
  run_leaves T old found before input held new keeps holds result runs processes reached number bytes known is_new may =
      subst (λ (i : Known). HaveSilentEvents reached.names number processes
      (λ started. LeavesAfterStart reached.names number started i held new keeps holds result)) (sym known)
      (run_events T old found before bytes held new keeps holds processes reached number may result
      (subst (λ (i : Known). HasRun reached.names number found before i held new keeps holds result) known
      (runs reached.names number is_new)))
