-- The frames of a round are handled by events of the process.
use Rattle.std.proofs.Common.{◌≡◌, ◌≤◌, ◌+◌, ℕ, suc, List, [], ◌∷◌, ◌++◌, length, Option, Some, slice_get}
use Rattle.std.proofs.Common.{refl, sym, ap, ◌∙◌, append_assoc, append-nil, length-append, arith}
use Rattle.std.proofs.lemmas.Grind.{flat_map-append}
use Rattle.std.specs.List.{AllByRecursion, FoldsTo, filter}
use Rattle.deeds.specs.Kept.{FileOfNames}
use Rattle.node_strings.specs.Strings.{Strings}
use Rattle.node_effects.specs.Work.{entries_in, send_all}
use Rattle.node_effects.specs.declared.effects.Effects.{Effects}
use Rattle.node_effects.specs.declared.output.Output.{Output}
use Rattle.node_effects.specs.declared.output.Output.TheVariants as output
use Rattle.node.specs.Handles.{Handles as HandlesFrame}
use Rattle.node.specs.Recovering.{Notes as NotesLength}
use Rattle.node.specs.declared.node.Node.{Node}
use Rattle.node_store.specs.Outputs.{all_logged, effects_outputs, logged_of}
use Rattle.node_store.specs.Serving.{Happens, LoopEvent, Handles, Notes, all_outputs}
use Rattle.processes.specs.Events.{ProcessEvent, handled_process, is_told, noticed_by, processes_after}
use Rattle.processes.specs.Loops.{WasWrittenIn}
use Rattle.processes.specs.Processes.{Process, Processes, WaitingAnswers, WaitingFrame, frames_behind}
use Rattle.processes.proofs.LeadLemmas.{LeadsTo, all_written_later, leads_nowhere, leads_on, leads_once, own_process}

-- What waits then

-- the frames to nodes that wait after these events, where the log had so many entries before them
abbrev pub waiting_frames : (entries : ℕ) → List LoopEvent → List WaitingFrame
waiting_frames entries [] = []
waiting_frames entries (Notes bytes ∷ events) = waiting_frames entries events
waiting_frames entries (Handles frame effects ∷ events) =
    frames_behind entries effects.outputs.items
    ++ waiting_frames (entries + length (entries_in effects.outputs.items)) events

-- the answers that wait after a frame was handled
abbrev pub answers_behind : (entries : ℕ) → Effects → WaitingAnswers
answers_behind entries effects =
    record { behind = entries; frames = effects.answers.items; told = filter is_told (noticed_by effects) }

-- the answers that wait after these events
abbrev pub waiting_answers : (entries : ℕ) → List LoopEvent → List WaitingAnswers
waiting_answers entries [] = []
waiting_answers entries (Notes bytes ∷ events) = waiting_answers entries events
waiting_answers entries (Handles frame effects ∷ events) =
    let all = entries + length (entries_in effects.outputs.items) in
    answers_behind all effects ∷ waiting_answers all events

-- the process after these events
abbrev pub after_events : Process → List LoopEvent → Node → Process
after_events process events node = record {
  running = Some node;
  log = process.log ++ all_logged (all_outputs events);
  synced = process.synced;
  frames = process.frames ++ waiting_frames (length process.log) events;
  answers = process.answers ++ waiting_answers (length process.log) events;
}

-- The entries

pub none_sent : (frames : List Strings) → all_logged (send_all frames) ≡ []
none_sent [] = refl
none_sent (frame ∷ frames) = none_sent frames

pub logged_entries : (outputs : List Output) → all_logged outputs ≡ entries_in outputs
logged_entries [] = refl
logged_entries (output.Log entry ∷ outputs) = ap (λ es. entry ∷ es) (logged_entries outputs)
logged_entries (output.Send frame ∷ outputs) = logged_entries outputs

pub effects_logged : (effects : Effects) → all_logged (effects_outputs effects) ≡ entries_in effects.outputs.items
effects_logged effects =
    flat_map-append logged_of effects.outputs.items (send_all effects.answers.items)
    ∙ ap (λ es. all_logged effects.outputs.items ++ es) (none_sent effects.answers.items)
    ∙ append-nil (all_logged effects.outputs.items)
    ∙ logged_entries effects.outputs.items

-- The events

pub none_after : (process : Process) (node : Node) → process.running ≡ Some node → process ≡ after_events process [] node
none_after process node runs =
    ap (λ (it : Option Node). record {
      running = it;
      log = process.log;
      synced = process.synced;
      frames = process.frames;
      answers = process.answers;
    }) runs
    ∙ ap (λ log. record {
      running = Some node;
      log = log;
      synced = process.synced;
      frames = process.frames;
      answers = process.answers;
    }) (sym (append-nil process.log))
    ∙ ap (λ frames. record {
      running = Some node;
      log = process.log ++ [];
      synced = process.synced;
      frames = frames;
      answers = process.answers;
    }) (sym (append-nil process.frames))
    ∙ ap (λ answers. record {
      running = Some node;
      log = process.log ++ [];
      synced = process.synced;
      frames = process.frames ++ [];
      answers = answers;
    }) (sym (append-nil process.answers))

-- after a frame was handled, and then the others
pub handled_after : (process : Process) (frame : Strings) (effects : Effects) (between node : Node) (events : List LoopEvent) →
    after_events (handled_process process effects between) events node
    ≡ after_events process (Handles frame effects ∷ events) node
handled_after process frame effects between node events =
    let entries = entries_in effects.outputs.items in
    let outputs = all_outputs events in
    let n = length process.log in
    let long : length (process.log ++ entries) ≡ n + length entries = length-append process.log entries in
    let logged : (process.log ++ entries) ++ all_logged outputs ≡ process.log ++ all_logged (effects_outputs effects ++ outputs) =
    append_assoc process.log entries (all_logged outputs)
    ∙ ap (λ es. process.log ++ (es ++ all_logged outputs)) (sym (effects_logged effects))
    ∙ ap (λ es. process.log ++ es) (sym (flat_map-append logged_of (effects_outputs effects) outputs)) in
    let behind = frames_behind n effects.outputs.items in
    ap (λ log. record {
      running = Some node;
      log = log;
      synced = process.synced;
      frames = (process.frames ++ behind) ++ waiting_frames (length (process.log ++ entries)) events;
      answers = (process.answers ++ answers_behind (length (process.log ++ entries)) effects ∷ [])
          ++ waiting_answers (length (process.log ++ entries)) events;
    }) logged
    ∙ ap (λ m. record {
      running = Some node;
      log = process.log ++ all_logged (effects_outputs effects ++ outputs);
      synced = process.synced;
      frames = (process.frames ++ behind) ++ waiting_frames m events;
      answers = (process.answers ++ answers_behind m effects ∷ []) ++ waiting_answers m events;
    }) long
    ∙ ap (λ frames. record {
      running = Some node;
      log = process.log ++ all_logged (effects_outputs effects ++ outputs);
      synced = process.synced;
      frames = frames;
      answers = (process.answers ++ answers_behind (n + length entries) effects ∷ [])
          ++ waiting_answers (n + length entries) events;
    }) (append_assoc process.frames behind (waiting_frames (n + length entries) events))
    ∙ ap (λ answers. record {
      running = Some node;
      log = process.log ++ all_logged (effects_outputs effects ++ outputs);
      synced = process.synced;
      frames = process.frames ++ (behind ++ waiting_frames (n + length entries) events);
      answers = answers;
    }) (append_assoc process.answers (answers_behind (n + length entries) effects ∷ [])
    (waiting_answers (n + length entries) events))

module _ (names : FileOfNames) (number : ℕ) where
  -- the process after these events, to which they lead
  pub record Handled (from : Processes) (events : List LoopEvent) (new : Node) : Type 0 where
    pub to : Processes
    pub leads : LeadsTo names number from [] to
    pub process : to.at number ≡ after_events (from.at number) events new

  pub handles_all : (events : List LoopEvent) (from : Processes) (old new : Node) → (from.at number).running ≡ Some old →
      FoldsTo (Happens HandlesFrame NotesLength) old events new → AllByRecursion (WasWrittenIn from number) events →
      Handled from events new
  handles_all [] from old new runs folds were = record {
    to = from;
    leads = leads_nowhere names number from;
    process = none_after (from.at number) new (runs ∙ ap Some folds);
  }
  handles_all (Notes bytes ∷ events) from old new runs folds were =
      let j = folds.0 in
      let event = ProcessEvent.Notes number j in
      let next = processes_after from event in
      let own = own_process from.at number (record (from.at number) { running = Some j }) in
      let rest = handles_all events next j new (ap (λ (p : Process). p.running) own) folds.2
      (all_written_later from event number events were.1) in record {
        to = rest.to;
        leads = leads_on names number from next rest.to [] []
            (leads_once names number from event refl (old, runs, (bytes, folds.1)) tt) rest.leads;
        process = rest.process ∙ ap (λ p. after_events p events new) own;
      }
  handles_all (Handles frame effects ∷ events) from old new runs folds were =
      let j = folds.0 in
      let event = ProcessEvent.Handles number frame effects j in
      let next = processes_after from event in
      let own = own_process from.at number (handled_process (from.at number) effects j) in
      let rest = handles_all events next j new (ap (λ (p : Process). p.running) own) folds.2
      (all_written_later from event number events were.1) in record {
        to = rest.to;
        leads = leads_on names number from next rest.to [] []
            (leads_once names number from event refl ((old, runs, folds.1), were.0) tt) rest.leads;
        process = rest.process ∙ ap (λ p. after_events p events new) own
            ∙ handled_after (from.at number) frame effects j new events;
      }
