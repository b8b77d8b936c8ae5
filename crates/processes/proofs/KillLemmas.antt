-- What the loop leaves, however it ends.
use Rattle.std.proofs.Common.{◌≡◌, ℕ, List, [], ◌++◌, length, take, None, Some, Result, Ok, Err, Option}
use Rattle.std.proofs.Common.{refl, sym, subst, ap, ◌∙◌, append-nil, arith}
use Rattle.std.proofs.lemmas.List.{take_all}
use Rattle.std.specs.Io.KnownBytes.{Appends}
use Rattle.deeds.specs.Kept.{FileOfNames}
use Rattle.node.specs.Handles.{Handles as HandlesFrame}
use Rattle.node.specs.Recovering.{Notes as NotesLength}
use Rattle.node.specs.declared.node.Node.{Node}
use Rattle.node_log.specs.Entry.{first_chain}
use Rattle.node_strings.specs.Strings.{Strings}
use Rattle.node_store.specs.Laws.{IsLeft}
use Rattle.node_store.specs.Outputs.{AppendsFront}
use Rattle.node_store.specs.Recovery.{log_bytes}
use Rattle.node_store.specs.Rounds.{BetweenRounds, ServesInRounds}
use Rattle.node_store.specs.Serving.{LoopEvent}
use Rattle.node_store.specs.declared.end.LogEnd.{LogEnd}
use Rattle.node_store.specs.declared.stop.ServeError.{ServeError}
use Rattle.node_store.proofs.GrowthLemmas.{Known}
use Rattle.processes.specs.Events.{ProcessEvent}
use Rattle.processes.specs.Interleaved.{GoesOnAmongOthers, IsLeftBehind, written_by}
use Rattle.processes.specs.Kills.{LeavesEvents}
use Rattle.processes.specs.Loops.{IsBetweenRounds}
use Rattle.processes.specs.Processes.{Process, Processes}
use Rattle.processes.specs.Runs.{AreOfPrograms, MayAllHappenTo, processes_run}
use Rattle.processes.proofs.AmongLemmas.{as_among}
use Rattle.processes.proofs.SessionLawLemmas.{HasEnded, among, ends_among, stops_among}
use Rattle.processes.proofs.SessionLemmas.{IsAt, round_steps}

-- a whole log is one that a stop may leave
left_whole : (log : List Strings) (synced : ℕ) → synced ≡ length log → IsLeft log synced (log_bytes first_chain log)
left_whole log synced all = record {
  front = log_bytes first_chain log;
  more = [];
  lost = [];
  zeros = 0;
  kept = ap (λ (es : List Strings). log_bytes first_chain es) (sym (take_all synced log (omega (arith, all))))
      ∙ sym (append-nil (log_bytes first_chain (take synced log)));
  all = sym (append-nil (log_bytes first_chain log));
  disk_is = sym (append-nil (log_bytes first_chain log));
}

front_all : (old new : Known) (bytes : List ℕ) → Appends old new bytes → AppendsFront old new bytes
front_all old new bytes all = (bytes, [], sym (append-nil bytes), all)

-- a process that rests has left all
rests_left : (held holds keeps : Known) (node : Node) (chain : ℕ) (written : List ℕ) (process : Process) →
    Appends held holds written → IsBetweenRounds process node chain keeps → IsLeftBehind held holds keeps written process
rests_left held holds keeps node chain written process all rests = (
  front_all held holds written all,
  (log_bytes first_chain process.log, rests.bytes, left_whole process.log process.synced rests.synced),
)

-- nothing is read, and nothing happens any more
rests_among : (names : FileOfNames) (number : ℕ) (from : Processes) (held : Known) (last : BetweenRounds Node)
    (done : List ProcessEvent) → IsAt names number from held last done →
    GoesOnAmongOthers names number from done (λ events. events ≡ [])
    (λ all. IsLeftBehind held last.held last.kept (written_by number all from) ((processes_run all from).at number))
rests_among names number from held last done at others are may brings =
    let all = done ++ others in
    let here = as_among names number from held last done others are may at.is in
    let same : all ++ [] ≡ all = append-nil all in
    let holds = rests_left held last.held last.kept last.machine last.chain (written_by number all from)
    ((processes_run all from).at number) here.wrote here.rests in (
      [],
      tt,
      subst (λ (es : List ProcessEvent). MayAllHappenTo names es from) (sym same) may,
      subst (λ (es : List ProcessEvent). AreOfPrograms number es from) (sym same) here.programs,
      subst (λ (es : List ProcessEvent). IsLeftBehind held last.held last.kept (written_by number es from)
          ((processes_run es from).at number)) (sym same) holds,
    )

-- what is told of an end holds of what is left behind
among_weaker : (names : FileOfNames) (number : ℕ) (from : Processes) (done : List ProcessEvent)
    (AreRead : List LoopEvent → Type 0) (P Q : (written : List ℕ) → Process → Type 0) →
    ((written : List ℕ) (process : Process) → P written process → Q written process) →
    GoesOnAmongOthers names number from done AreRead (λ all. P (written_by number all from) ((processes_run all from).at number)) →
    GoesOnAmongOthers names number from done AreRead (λ all. Q (written_by number all from) ((processes_run all from).at number))
among_weaker names number from done AreRead P Q weaker goes others are may brings =
    let went = goes others are may brings in (went.0, went.1, went.2, went.3, weaker _ _ went.4)

pub rounds_leave : (first : BetweenRounds Node) (new : Node) (left keeps holds : Known)
    (result : Result (Option LogEnd) ServeError) → ServesInRounds HandlesFrame NotesLength first new left keeps holds result →
    LeavesEvents first new left keeps holds result
rounds_leave first new left keeps holds (Ok None) (last, (count, went, short), then, serves) names number processes input known rests =
    among names number processes first input known rests _ _ _ last (round_steps first.length count first last went) (then, serves)
    (λ done at. among_weaker names number processes done _ (HasEnded first.held new keeps holds)
    (IsLeftBehind first.held holds keeps)
    (λ written process ended. rests_left first.held holds keeps new ended.1.0 written process ended.0 ended.1.1)
    (ends_among names number processes first input known rests last then new left keeps holds serves done at))
rounds_leave first new left keeps holds (Ok (Some end)) (grown, count, went) names number processes input known rests =
    let last : BetweenRounds Node =
    record { length = end.length; chain = end.chain.state; machine = new; left = left; kept = keeps; held = holds } in
    among names number processes first input known rests _ _ _ last (round_steps first.length count first last went) refl
    (rests_among names number processes first.held last)
rounds_leave first new left keeps holds (Err error) (last, (count, went, short), stops) names number processes input known rests =
    among names number processes first input known rests _ _ _ last (round_steps first.length count first last went) stops
    (stops_among names number processes first input known rests last keeps holds error stops)
