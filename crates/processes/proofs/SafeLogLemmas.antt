-- The entries of a log are whole, and those that are synced remain.
use Rattle.std.proofs.Common.{◌≡◌, ◌≤◌, ℕ, Bool, true, false, cond, List, [], ◌∷◌, length, eqb, eqb-true, Option, None, Some}
use Rattle.std.proofs.Common.{refl, sym, subst, arith}
use Rattle.deeds.specs.Kept.{FileOfNames}
use Rattle.node_store.specs.Laws.{LeftLogIsRead}
use Rattle.processes.specs.Events.{MayHappenTo, ProcessEvent, number_of, process_after, processes_after}
use Rattle.processes.specs.Events.ProcessEvent.{Starts, Notes, Handles, Syncs, Sends, Tells, Rewrites, Stops}
use Rattle.processes.specs.Processes.{Process, Processes}
use Rattle.processes.specs.Runs.{MayAllHappenTo}
use Rattle.processes.proofs.FateLemmas.{AreSafe, fate, fate_by, safe_remain}
use Rattle.processes.proofs.HandledFrameLemmas.{handled_whole}
use Rattle.processes.proofs.StandingLemmas.{HasWholeLog}
use Rattle.processes.proofs.ReadLogLemmas.{read_first, rewritten_whole, started_whole}

module _ (law : LeftLogIsRead) (names : FileOfNames) where
  -- the log of an event's process stays whole
  pub whole_after : (processes : Processes) (event : ProcessEvent) → MayHappenTo names processes event →
      HasWholeLog (processes.at (number_of event)) → HasWholeLog (process_after (processes.at (number_of event)) event)
  whole_after processes (Starts number read anew new copy after) may sound =
      started_whole names number (processes.at number) read anew new copy after
      (read_first law names number (processes.at number) read anew new copy after sound may) may
  whole_after processes (Notes number after) may sound = record { whole = sound.whole; fits = sound.fits }
  whole_after processes (Handles number frame effects after) may sound =
      handled_whole (processes.at number) may.0.0 after frame effects may.0.2 sound
  whole_after processes (Syncs number count) may sound = record { whole = sound.whole; fits = may.1 }
  whole_after processes (Sends number frame) may sound = sound
  whole_after processes (Tells number) may sound = record { whole = sound.whole; fits = sound.fits }
  whole_after processes (Rewrites number entries) may sound = rewritten_whole (processes.at number) may.0.0 entries may.0.2
  whole_after processes (Stops number) may sound = record { whole = sound.whole; fits = sound.fits }

  -- the logs of all processes stay whole
  pub all_whole_after : (processes : Processes) (event : ProcessEvent) → MayHappenTo names processes event →
      ((number : ℕ) → HasWholeLog (processes.at number)) → (number : ℕ) →
      HasWholeLog ((processes_after processes event).at number)
  all_whole_after processes event may each number = go (eqb number (number_of event))
    where
      go : (b : Bool) → HasWholeLog (cond b (process_after (processes.at (number_of event)) event) (processes.at number))
      go true = whole_after processes event may (each (number_of event))
      go false = each number

  -- if a log is safe, so is a part of it
  safe_part : (fate : Option ℕ) (count more : ℕ) → count ≤ more → AreSafe fate more → AreSafe fate count
  safe_part None count more le safe = tt
  safe_part (Some most) count more le safe = omega arith

  -- what is synced before an event is safe, if what is synced after it is
  safe_before : (processes : Processes) (event : ProcessEvent) (later : Option ℕ) → MayHappenTo names processes event →
      HasWholeLog (processes.at (number_of event)) →
      AreSafe later (process_after (processes.at (number_of event)) event).synced →
      AreSafe (fate_by event later) (processes.at (number_of event)).synced
  safe_before processes (Starts number read None new copy after) later may sound safe =
      safe_remain later (processes.at number).synced (length read) safe
      (read_first law names number (processes.at number) read None new copy after sound may).least
  safe_before processes (Starts number read (Some entries) new copy after) later may sound safe =
      (read_first law names number (processes.at number) read (Some entries) new copy after sound may).least
  safe_before processes (Notes number after) later may sound safe = safe
  safe_before processes (Handles number frame effects after) later may sound safe = safe
  safe_before processes (Syncs number count) later may sound safe =
      safe_part later (processes.at number).synced count may.0 safe
  safe_before processes (Sends number frame) later may sound safe = safe
  safe_before processes (Tells number) later may sound safe = safe
  safe_before processes (Rewrites number entries) later may sound safe = tt
  safe_before processes (Stops number) later may sound safe = safe

  pub synced_safe : (events : List ProcessEvent) (processes : Processes) → MayAllHappenTo names events processes →
      ((number : ℕ) → HasWholeLog (processes.at number)) → (number : ℕ) →
      AreSafe (fate events number) (processes.at number).synced
  synced_safe [] processes may sound number = tt
  synced_safe (event ∷ events) processes may sound number =
      go (eqb number (number_of event)) refl
      (synced_safe events (processes_after processes event) may.1 (all_whole_after processes event may.0 sound) number)
    where
      then : Process
      then = process_after (processes.at (number_of event)) event

      go : (b : Bool) → eqb number (number_of event) ≡ b → AreSafe (fate events number) (cond b then (processes.at number)).synced →
          AreSafe (cond b (fate_by event (fate events number)) (fate events number)) (processes.at number).synced
      go true e safe =
          subst (λ n. AreSafe (fate_by event (fate events number)) (processes.at n).synced) (sym (eqb-true number (number_of event) e))
          (safe_before processes event (fate events number) may.0 (sound (number_of event)) safe)
      go false e safe = safe
