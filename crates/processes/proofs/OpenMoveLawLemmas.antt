-- Processes that are reached have distinct moves in their logs, and their nodes start with the open moves.
use Rattle.std.proofs.Common.{◌≡◌, ◌<◌, ℕ, suc, Bool, true, false, cond, List, [], ◌∷◌, ◌++◌, Option, None, Some, Result, Ok, Err}
use Rattle.std.proofs.Common.{take, drop, eqb, eqb-true, refl, sym, subst, ap, ◌∙◌, arith}
use Rattle.std.proofs.lemmas.List.{take-append-drop}
use Rattle.std.specs.Prelude.{nat_eq}
use Rattle.std.specs.List.{AllByRecursion, IsDistinct}
use Rattle.deeds.specs.Kept.{FileOfNames}
use Rattle.recoveries.specs.LoggedIds.{moves_in}
use Rattle.recoveries.specs.Records.{LogRecord}
use Rattle.recoveries.proofs.LoggedMoveLemmas.{distinct_none}
use Rattle.recoveries.proofs.RewrittenIdLemmas.{moves_append}
use Rattle.node_messages.specs.Reading.{message_from}
use Rattle.node_messages.specs.declared.error.Fault.{Fault}
use Rattle.node_messages.specs.declared.message.NodeMessage.{NodeMessage}
use Rattle.node_strings.specs.Record.{record_at}
use Rattle.node_strings.specs.Strings.{Strings}
use Rattle.node_strings.specs.declared.record.Record.{Record}
use Rattle.node_strings.specs.declared.record.Record.TheVariants as record_of
use Rattle.node_keeper.specs.Logging.{deeds_if, letter_records, records_in}
use Rattle.node.specs.OpenMoves.{moved_by, moved_ids}
use Rattle.node.proofs.OpenMoveLemmas.{desks_have, started_have}
use Rattle.node_store.specs.Laws.{LeftLogIsRead}
use Rattle.processes.specs.Events.{MayHappenTo, ProcessEvent, number_of, process_after, processes_after}
use Rattle.processes.specs.Events.ProcessEvent.{Starts, Notes, Handles, Syncs, Sends, Tells, Rewrites, Stops}
use Rattle.processes.specs.OpenMoves.{LeftLogsHaveDistinctMoves, LogsHaveDistinctMoves, StartsHaveTheOpenMoves}
use Rattle.processes.specs.Processes.{Process, Processes, new_processes}
use Rattle.processes.specs.Runs.{AreReached, MayAllHappenTo, processes_run}
use Rattle.processes.proofs.DistinctMoveLemmas.{HasDistinctMoves, handled_moves, noted_moves, read_moves, rewritten_moves}
use Rattle.processes.proofs.DistinctMoveLemmas.{started_moves}
use Rattle.processes.proofs.LogLemmas.{all_records, all_records_append}
use Rattle.processes.proofs.MoveIdLemmas.{first_distinct}
use Rattle.processes.proofs.ProgramLemmas.{reached_whole}
use Rattle.processes.proofs.ReadLogLemmas.{read_first}
use Rattle.processes.proofs.SafeLogLemmas.{all_whole_after}
use Rattle.processes.proofs.StandingLemmas.{HasWholeLog}

-- Events

module _ (law : LeftLogIsRead) (names : FileOfNames) where
  moves_after : (processes : Processes) (event : ProcessEvent) → MayHappenTo names processes event →
      HasWholeLog (processes.at (number_of event)) → HasDistinctMoves (number_of event) (processes.at (number_of event)) →
      HasDistinctMoves (number_of event) (process_after (processes.at (number_of event)) event)
  moves_after processes (Starts number read anew new copy after) may sound is =
      started_moves names number (processes.at number) read anew new copy after may
      (read_first law names number (processes.at number) read anew new copy after sound may) is
  moves_after processes (Notes number after) may sound is =
      noted_moves number may.2.0 (processes.at number) may.0 after may.1 may.2.1 is
  moves_after processes (Handles number frame effects after) may sound is =
      handled_moves number (processes.at number) may.0.0 after frame effects may.0.1 may.0.2 is
  moves_after processes (Syncs number count) may sound is =
      record { distinct = is.distinct; behind = is.behind; runs = is.runs }
  moves_after processes (Sends number frame) may sound is = is
  moves_after processes (Tells number) may sound is =
      record { distinct = is.distinct; behind = is.behind; runs = is.runs }
  moves_after processes (Rewrites number entries) may sound is =
      rewritten_moves number (processes.at number) may.0.0 entries may.0.1 may.0.2 is
  moves_after processes (Stops number) may sound is =
      record { distinct = is.distinct; behind = is.behind; runs = λ node e. absurd (cc) }

  all_moves_after : (processes : Processes) (event : ProcessEvent) → MayHappenTo names processes event →
      ((number : ℕ) → HasWholeLog (processes.at number)) → ((number : ℕ) → HasDistinctMoves number (processes.at number)) →
      (number : ℕ) → HasDistinctMoves number ((processes_after processes event).at number)
  all_moves_after processes event may sound each number = go (eqb number (number_of event)) refl
    where
      then : Process
      then = process_after (processes.at (number_of event)) event

      go : (b : Bool) → eqb number (number_of event) ≡ b → HasDistinctMoves number (cond b then (processes.at number))
      go true e =
          subst (λ n. HasDistinctMoves n then) (sym (eqb-true number (number_of event) e))
          (moves_after processes event may (sound (number_of event)) (each (number_of event)))
      go false e = each number

  moves_run : (events : List ProcessEvent) (processes : Processes) → MayAllHappenTo names events processes →
      ((number : ℕ) → HasWholeLog (processes.at number)) → ((number : ℕ) → HasDistinctMoves number (processes.at number)) →
      (number : ℕ) → HasDistinctMoves number ((processes_run events processes).at number)
  moves_run [] processes may sound each number = each number
  moves_run (event ∷ events) processes may sound each number =
      moves_run events (processes_after processes event) may.1 (all_whole_after law names processes event may.0 sound)
      (all_moves_after processes event may.0 sound each) number

reached_moves : LeftLogIsRead → (processes : Processes) → AreReached processes → (number : ℕ) →
    HasDistinctMoves number (processes.at number)
reached_moves law processes reached number =
    subst (λ (ps : Processes). HasDistinctMoves number (ps.at number)) reached.result
    (moves_run law reached.names reached.events new_processes reached.may
    (λ any. record { whole = tt; fits = omega arith })
    (λ any. record { distinct = distinct_none; behind = tt; runs = λ node e. absurd (cc) }) number)

-- Entries

-- the ids of the moves that an entry says began
serve_moves : (r : Result NodeMessage Fault) → [] ≡ moves_in (letter_records LogRecord.Serves r)
serve_moves (Ok message) = refl
serve_moves (Err fault) = refl

take_moves : (r : Result NodeMessage Fault) → [] ≡ moves_in (letter_records LogRecord.Takes r)
take_moves (Ok message) = refl
take_moves (Err fault) = refl

entry_moves : (o : Option Record) → moved_by o ≡ moves_in (deeds_if o)
entry_moves None = refl
entry_moves (Some (record_of.Cluster digest node)) = refl
entry_moves (Some record_of.Start) = refl
entry_moves (Some (record_of.Serve frame)) = serve_moves (message_from frame)
entry_moves (Some (record_of.Take frame)) = take_moves (message_from frame)
entry_moves (Some (record_of.Move id name layout)) = refl
entry_moves (Some (record_of.Hear position name layout)) = refl
entry_moves (Some (record_of.Close position name)) = refl

log_moves : (log : List Strings) → moved_ids log ≡ moves_in (all_records log)
log_moves [] = refl
log_moves (entry ∷ log) =
    ap (λ ids. ids ++ moved_ids log) (entry_moves (record_at entry))
    ∙ ap (λ ids. moves_in (records_in entry) ++ ids) (log_moves log)
    ∙ sym (moves_append (records_in entry) (all_records log))

-- The laws

pub logs_have : LeftLogIsRead → LogsHaveDistinctMoves
logs_have law processes reached number =
    let log = (processes.at number).log in
    subst (IsDistinct nat_eq) (sym (log_moves log)) (reached_moves law processes reached number).distinct

first_moved : (first rest : List Strings) → moved_ids (first ++ rest) ≡ moved_ids first ++ moved_ids rest
first_moved first rest =
    log_moves (first ++ rest) ∙ ap moves_in (all_records_append first rest) ∙ moves_append (all_records first) (all_records rest)
    ∙ ap (λ ids. ids ++ moves_in (all_records rest)) (sym (log_moves first)) ∙ ap (λ ids. moved_ids first ++ ids) (sym (log_moves rest))

pub left_logs_have : LeftLogIsRead → LeftLogsHaveDistinctMoves
left_logs_have law processes reached number disk read left whole begins =
    let process = processes.at number in
    let found = law process.log read process.synced disk (reached_whole law processes reached number).whole whole left begins in
    let parts = first_moved (take found.0 process.log) (drop found.0 process.log) in
    let all : IsDistinct nat_eq (moved_ids (take found.0 process.log ++ drop found.0 process.log)) =
    subst (λ (es : List Strings). IsDistinct nat_eq (moved_ids es)) (sym (take-append-drop found.0 process.log))
    (logs_have law processes reached number) in
    subst (λ (es : List Strings). IsDistinct nat_eq (moved_ids es)) (sym found.2)
    (first_distinct (moved_ids (take found.0 process.log)) (moved_ids (drop found.0 process.log)) (subst (IsDistinct nat_eq) parts all))

pub starts_have : LeftLogIsRead → StartsHaveTheOpenMoves
starts_have law processes reached number read anew new copy after may =
    let fresh = may.is_new in
    started_have copy after may.started may.desk
    (desks_have fresh.file number new copy read fresh.lawful fresh.kept fresh.calls
    (left_logs_have law processes reached number may.disk read may.left may.whole may.begins) may.recovered)
