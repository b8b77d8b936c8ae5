-- What a program does from its start to its end is a list of events of its process, among events of other processes.
use Rattle.std.proofs.Common.{◌≡◌, inl, inr, ℕ, false, List, [], ◌++◌, length, Some, Ok}
use Rattle.std.proofs.Common.{refl, sym, subst, ap, ◌∙◌, append_assoc}
use Rattle.std.specs.Io.KnownBytes.{Appends}
use Rattle.deeds.specs.Kept.{FileOfNames}
use Rattle.node.specs.Handles.{Handles as HandlesFrame}
use Rattle.node.specs.Recovering.{Notes as NotesLength}
use Rattle.node.specs.declared.node.Node.{Node}
use Rattle.node_log.specs.Entry.{chain_behind, first_chain}
use Rattle.node_log.specs.Reading.{HadLeft}
use Rattle.node_store.specs.Outputs.{AppendsFront}
use Rattle.node_store.specs.Recovery.{log_bytes}
use Rattle.node_store.specs.Rewriting.{KeepsOrBecomes}
use Rattle.node_store.specs.Rounds.{BetweenRounds, GoesRounds}
use Rattle.node_store.specs.Serving.{BeginsWithFrames, LoopEvent, ReadsFrames, ServesSome, StopsEarly, StopsServing}
use Rattle.node_store.specs.declared.end.LogEnd.{LogEnd}
use Rattle.node_store.specs.declared.stop.ServeError.{ServeError}
use Rattle.node_store.proofs.GrowthLemmas.{Known, appends_none, appends_then}
use Rattle.processes.specs.Events.{ProcessEvent}
use Rattle.processes.specs.Interleaved.{GoesOnAmongOthers, HaveEventsAmongOthers, IsLeftBehind, written_by}
use Rattle.processes.specs.Interleaved.{SessionsAreEvents, StoppedSessionsAreEvents, UnexchangedSessionsAreEvents}
use Rattle.processes.specs.Loops.{BringsWritten, HaveEvents, IsBetweenRounds}
use Rattle.processes.specs.Processes.{Process, Processes}
use Rattle.processes.specs.Programs.{IsHalfRewritten}
use Rattle.processes.specs.Runs.{processes_run}
use Rattle.processes.specs.Sessions.{GoesOn}
use Rattle.processes.proofs.AmongLemmas.{as_among, own_behind}
use Rattle.processes.proofs.LeadLemmas.{leads_nowhere}
use Rattle.processes.proofs.ProgramLemmas.{kept_as, rewrites_are_events}
use Rattle.processes.proofs.RoundLawLemmas.{have_events, rounds_are_events, stops_are_events}
use Rattle.processes.proofs.SessionLemmas.{HasSteps, IsAt, round_steps, serves_among, session_steps, steps_then}

fronts_then : (a b c : Known) (xs ys : List ℕ) → Appends a b xs → AppendsFront b c ys → AppendsFront a c (xs ++ ys)
fronts_then a b c xs ys all (front, back, same, some) = (
  xs ++ front,
  back,
  ap (λ (t : List ℕ). xs ++ t) same ∙ sym (append_assoc xs front back),
  appends_then a b c xs front all some,
)

-- A log that perhaps was exchanged

-- events that write nothing, and after which the process rests with a log that keeps this
abbrev pub RestsWith : (keeps : Known) → (written : List ℕ) → Process → Type 0
RestsWith keeps written process =
    (written ≡ []) × ((node : Node) × (then : ℕ) × IsBetweenRounds process node then keeps)

half_exchanged : (names : FileOfNames) (number : ℕ) (processes : Processes) (last : BetweenRounds Node) (keeps : Known) →
    IsBetweenRounds (processes.at number) last.machine last.chain last.kept → IsHalfRewritten last.machine last.kept keeps →
    HaveEvents names number processes (RestsWith keeps)
half_exchanged names number processes last keeps rests (entries, anew, either) = go either
  where
    end : LogEnd
    end = record {
      length = length (log_bytes first_chain entries);
      chain = record { state = chain_behind first_chain entries };
    }

    go : KeepsOrBecomes last.kept keeps (Some (log_bytes first_chain entries)) →
        HaveEvents names number processes (RestsWith keeps)
    go (inl same) =
        have_events names number processes processes [] (RestsWith keeps) (leads_nowhere names number processes) (
          refl,
          (
            last.machine,
            last.chain,
            subst (λ (k : Known). IsBetweenRounds (processes.at number) last.machine last.chain k)
                (sym (kept_as last.kept keeps _ rests.bytes same)) rests,
          ),
        )
    go (inr becomes) =
        let have = rewrites_are_events names number processes last.machine last.chain last.kept keeps entries end rests anew
        becomes (record { long = refl; chained = refl }) in record {
          events = have.events;
          own = have.own;
          may = have.may;
          programs = have.programs;
          holds = (have.holds.0, (last.machine, end.chain.state, have.holds.1));
        }

-- this holds of what the process has written in these events, and of the process
abbrev pub HoldsOf : (number : ℕ) → (from : Processes) → (Holds : (written : List ℕ) → Process → Type 0)
    → List ProcessEvent → Type 0
HoldsOf number from Holds all = Holds (written_by number all from) ((processes_run all from).at number)

-- The ends of a session

-- what holds after the input has ended
abbrev pub HasEnded : (held : Known) → (new : Node) → (keeps holds : Known) → (written : List ℕ) → Process → Type 0
HasEnded held new keeps holds written process =
    Appends held holds written × ((then : ℕ) × IsBetweenRounds process new then keeps)

-- what holds where the log cannot be exchanged
abbrev pub HasBroken : (held keeps holds : Known) → (written : List ℕ) → Process → Type 0
HasBroken held keeps holds written process =
    Appends held holds written × ((node : Node) × (then : ℕ) × IsBetweenRounds process node then keeps)

module _ (names : FileOfNames) (number : ℕ) (from : Processes) (first : BetweenRounds Node) (input : List ℕ)
    (known : first.left ≡ Some input) (rests : IsBetweenRounds (from.at number) first.machine first.chain first.kept) where
  -- the session before its end
  pub among : (Ends : BetweenRounds Node → Type 0) (AreRead : BetweenRounds Node → List LoopEvent → Type 0)
      (Holds : (written : List ℕ) → Process → Type 0) (last : BetweenRounds Node) → HasSteps first last → Ends last →
      ((done : List ProcessEvent) → IsAt names number from first.held last done →
      GoesOnAmongOthers names number from done (AreRead last)
      (λ all. Holds (written_by number all from) ((processes_run all from).at number))) →
      HaveEventsAmongOthers names number from first Ends AreRead Holds
  among Ends AreRead Holds last (steps, taken) ends goes = record {
    steps = steps;
    last = last;
    taken = taken;
    ends = ends;
    among = serves_among names number from first.held steps first last []
        (λ done. GoesOnAmongOthers names number from done (AreRead last)
        (λ all. Holds (written_by number all from) ((processes_run all from).at number))) (record {
          is = record { may = tt; programs = tt; wrote = appends_none first.held; rests = rests };
          input = input;
          known = known;
        }) taken goes;
  }

  -- its input ends
  pub ends_among : (last : BetweenRounds Node) (then : ℕ) (new : Node) (left keeps holds : Known) →
      ServesSome HandlesFrame NotesLength last.chain then last.machine new last.left left last.kept keeps last.held holds
      (Ok false) → (done : List ProcessEvent) → IsAt names number from first.held last done →
      GoesOnAmongOthers names number from done (λ events. ReadsFrames last.left left events false)
      (λ all. HasEnded first.held new keeps holds (written_by number all from) ((processes_run all from).at number))
  ends_among last then new left keeps holds serves done at others are may brings =
      let all = done ++ others in
      let here = as_among names number from first.held last done others are may at.is in
      let have = rounds_are_events names number (processes_run all from) last.chain then last.machine new at.input left
      last.kept keeps last.held holds false here.rests
      (subst (λ (had : Known). ServesSome HandlesFrame NotesLength last.chain then last.machine new had left last.kept keeps
      last.held holds (Ok false)) at.known serves)
      (subst (λ (had : Known). BringsWritten (processes_run all from) number (λ events. ReadsFrames had left events false))
      at.known brings) in
      own_behind names number from all _ (HoldsOf number from (HasEnded first.held new keeps holds)) may here.programs have
      (λ own written both programs wrote rested. (
        subst (λ (t : List ℕ). Appends first.held holds t) (sym wrote)
            (appends_then first.held last.held holds (written_by number all from) written here.wrote rested.0),
        (then, rested.1),
      ))

  -- its loop stops early
  pub stops_among : (last : BetweenRounds Node) (keeps holds : Known) (error : ServeError) →
      StopsEarly HandlesFrame NotesLength last.chain last.machine last.left last.kept keeps last.held holds error →
      (done : List ProcessEvent) → IsAt names number from first.held last done →
      GoesOnAmongOthers names number from done (λ events. HadLeft (BeginsWithFrames events (StopsServing error)) last.left)
      (λ all. IsLeftBehind first.held holds keeps (written_by number all from) ((processes_run all from).at number))
  stops_among last keeps holds error stops done at others are may brings =
      let all = done ++ others in
      let here = as_among names number from first.held last done others are may at.is in
      let have = stops_are_events names number (processes_run all from) last.chain last.machine at.input last.kept keeps
      last.held holds error here.rests
      (subst (λ (had : Known). StopsEarly HandlesFrame NotesLength last.chain last.machine had last.kept keeps last.held holds
      error) at.known stops)
      (subst (λ (had : Known). BringsWritten (processes_run all from) number
      (λ events. HadLeft (BeginsWithFrames events (StopsServing error)) had)) at.known brings) in
      own_behind names number from all _ (HoldsOf number from (IsLeftBehind first.held holds keeps)) may here.programs have
      (λ own written both programs wrote stopped. (
        subst (λ (t : List ℕ). AppendsFront first.held holds t) (sym wrote)
            (fronts_then first.held last.held holds (written_by number all from) written here.wrote stopped.0),
        stopped.1,
      ))

  -- its log cannot be exchanged
  pub breaks_among : (last : BetweenRounds Node) (keeps holds : Known) → holds ≡ last.held →
      IsHalfRewritten last.machine last.kept keeps →
      (done : List ProcessEvent) → IsAt names number from first.held last done →
      GoesOnAmongOthers names number from done (λ events. events ≡ [])
      (λ all. HasBroken first.held keeps holds (written_by number all from) ((processes_run all from).at number))
  breaks_among last keeps holds is_held half done at others are may brings =
      let all = done ++ others in
      let here = as_among names number from first.held last done others are may at.is in
      let have = half_exchanged names number (processes_run all from) last keeps here.rests half in
      own_behind names number from all _ (HoldsOf number from (HasBroken first.held keeps holds)) may here.programs have
      (λ own written both programs wrote rested. (
        subst (λ (h : Known). Appends first.held h (written_by number (all ++ own) from)) (sym is_held)
            (subst (λ (t : List ℕ). Appends first.held last.held t)
            (sym (wrote ∙ ap (λ (t : List ℕ). written_by number all from ++ t) rested.0))
            (appends_then first.held last.held last.held (written_by number all from) [] here.wrote
            (appends_none last.held))),
        rested.1,
      ))

-- all steps, in sessions of rounds
all_steps : (count rounds : ℕ) (first last end : BetweenRounds Node) → GoesOn count first last →
    GoesRounds HandlesFrame NotesLength last.length rounds last end → HasSteps first end
all_steps count rounds first last end gone went =
    steps_then first last end (session_steps count first last gone) (round_steps last.length rounds last end went)

pub sessions_are_events : SessionsAreEvents
sessions_are_events names number processes first input new left keeps holds known rests
    (count, last, gone, (end, (rounds, went, short), then, serves)) =
    among names number processes first input known rests _ _ _ end
    (all_steps count rounds first last end gone went) (then, serves)
    (ends_among names number processes first input known rests end then new left keeps holds serves)

pub stopped_sessions_are_events : StoppedSessionsAreEvents
stopped_sessions_are_events names number processes first input new left keeps holds error known rests
    (count, last, gone, (end, (rounds, went, short), stops)) =
    among names number processes first input known rests _ _ _ end
    (all_steps count rounds first last end gone went) stops
    (stops_among names number processes first input known rests end keeps holds error stops)

pub unexchanged_sessions_are_events : UnexchangedSessionsAreEvents
unexchanged_sessions_are_events names number processes first input left keeps holds known rests
    (count, last, served, gone, (grown, rounds, went), is_left, is_held, half) =
    among names number processes first input known rests _ _ _ served
    (all_steps count rounds first last served gone went) (is_left, is_held, half)
    (breaks_among names number processes first input known rests served keeps holds is_held half)
