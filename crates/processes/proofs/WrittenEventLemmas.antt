-- What waits is written by events of the process: all of it, or first outputs.
use Rattle.std.proofs.Common.{◌≡◌, ◌≤◌, ◌+◌, inl, inr, ℕ, suc, List, [], ◌∷◌, ◌++◌, length, drop, slice_get}
use Rattle.std.proofs.Common.{refl, sym, subst, ap, ◌∙◌, append_assoc, append-nil, length-append, arith}
use Rattle.std.proofs.lemmas.Grind.{flat_map-append}
use Rattle.std.specs.List.{flat_map}
use Rattle.frames.specs.Frame.{frame_bytes}
use Rattle.deeds.specs.Kept.{FileOfNames}
use Rattle.node_strings.specs.Strings.{Strings}
use Rattle.node_effects.specs.Work.{entries_in, send_all}
use Rattle.node_effects.specs.declared.effects.Effects.{Effects}
use Rattle.node_effects.specs.declared.output.Output.{Output}
use Rattle.node_effects.specs.declared.output.Output.TheVariants as output
use Rattle.node_store.specs.Outputs.{all_logged, all_sent, effects_outputs, logged_of, sent_of}
use Rattle.node_store.specs.Serving.{LoopEvent, Handles, Notes, all_outputs}
use Rattle.processes.specs.Events.{ProcessEvent, processes_after}
use Rattle.processes.specs.Loops.{first_frames}
use Rattle.processes.specs.Processes.{Process, Processes, WaitingAnswers, WaitingFrame}
use Rattle.processes.proofs.HandledRoundLemmas.{answers_behind, effects_logged, logged_entries, waiting_answers}
use Rattle.processes.proofs.LeadLemmas.{LeadsTo, leads_nowhere, leads_on, leads_once, own_process}
use Rattle.processes.proofs.WrittenRoundLemmas.{HaveAllFrames, HaveFrames, IsPart, Waits, bytes_of_effects, parted}

-- the frames among a front of the outputs wait
pub frames_front : (frames : List WaitingFrame) (entries : ℕ) (xs ys : List Output) → HaveFrames frames entries (xs ++ ys) →
    HaveFrames frames entries xs
frames_front frames entries [] ys have = tt
frames_front frames entries (output.Log entry ∷ xs) ys have = frames_front frames (suc entries) xs ys have
frames_front frames entries (output.Send frame ∷ xs) ys have = (have.0, frames_front frames entries xs ys have.1)

module _ (names : FileOfNames) (number : ℕ) where
  -- events lead here that write these bytes, and then the process is as before, but for the answers that wait
  pub record Writes (from : Processes) (written : List ℕ) (answers : List WaitingAnswers) : Type 0 where
    pub to : Processes
    pub leads : LeadsTo names number from written to
    pub process : to.at number ≡ record (from.at number) { answers = answers }

  pub writes_then : (from : Processes) (xs ys : List ℕ) (between answers : List WaitingAnswers) (first : Writes from xs between) →
      Writes first.to ys answers → Writes from (xs ++ ys) answers
  writes_then from xs ys between answers first more = record {
    to = more.to;
    leads = leads_on names number from first.to more.to xs ys first.leads more.leads;
    process = more.process ∙ ap (λ (p : Process). record p { answers = answers }) first.process;
  }

  pub sends_all : (outputs : List Output) (n : ℕ) (from : Processes) → HaveFrames (from.at number).frames n outputs →
      n + length (all_logged outputs) ≤ (from.at number).synced → Writes from (all_sent outputs) (from.at number).answers
  sends_all [] n from have fits = record { to = from; leads = leads_nowhere names number from; process = refl }
  sends_all (output.Log entry ∷ outputs) n from have fits = sends_all outputs (suc n) from have (omega arith)
  sends_all (output.Send frame ∷ outputs) n from have fits =
      let event = ProcessEvent.Sends number frame in
      let next = processes_after from event in
      let own : next.at number ≡ from.at number = own_process from.at number (from.at number) in
      let rest = sends_all outputs n next (subst (λ (p : Process). HaveFrames p.frames n outputs) (sym own) have.1)
      (subst (λ (p : Process). n + length (all_logged outputs) ≤ p.synced) (sym own) fits) in
      let waits = have.0 in
      let behind : waits.1.behind ≤ (from.at number).synced =
      let most = waits.4 in omega arith in record {
        to = rest.to;
        leads = subst (λ (t : List ℕ). LeadsTo names number from (t ++ all_sent outputs) rest.to) (append-nil (frame_bytes frame))
            (leads_on names number from next rest.to (frame_bytes frame ++ []) (all_sent outputs)
            (leads_once names number from event refl (waits.0, waits.1, waits.2, waits.3, behind) tt) rest.leads);
        process = rest.process ∙ ap (λ (p : Process). record p { answers = (next.at number).answers }) own
            ∙ ap (λ (p : Process). record (from.at number) { answers = p.answers }) own;
      }

  -- the answers that have waited longest
  pub tells_first : (first : WaitingAnswers) (rest : List WaitingAnswers) (from : Processes) →
      (from.at number).answers ≡ first ∷ rest → first.behind ≤ (from.at number).synced →
      Writes from (flat_map frame_bytes first.frames) rest
  tells_first first rest from waits fits =
      let event = ProcessEvent.Tells number in
      let next = processes_after from event in record {
        to = next;
        leads = subst (λ (them : List WaitingAnswers). LeadsTo names number from (flat_map frame_bytes (first_frames them)) next) waits
            (leads_once names number from event refl (first, rest, waits, fits) tt);
        process = own_process from.at number (record (from.at number) { answers = drop 1 (from.at number).answers })
            ∙ ap (λ (them : List WaitingAnswers). record (from.at number) { answers = drop 1 them }) waits;
      }

  -- all that waits of one frame
  pub writes_frame : (effects : Effects) (n : ℕ) (rest : List WaitingAnswers) (from : Processes) →
      HaveFrames (from.at number).frames n effects.outputs.items →
      (from.at number).answers ≡ answers_behind (n + length (entries_in effects.outputs.items)) effects ∷ rest →
      n + length (entries_in effects.outputs.items) ≤ (from.at number).synced →
      Writes from (all_sent (effects_outputs effects)) rest
  writes_frame effects n rest from have waits fits =
      let outputs = effects.outputs.items in
      let all = n + length (entries_in outputs) in
      let first = answers_behind all effects in
      let sends = sends_all outputs n from have
      (subst (λ (es : List Strings). n + length es ≤ (from.at number).synced) (sym (logged_entries outputs)) fits) in
      let tells = tells_first first rest sends.to (ap (λ (p : Process). p.answers) sends.process ∙ waits)
      (subst (λ (p : Process). all ≤ p.synced) (sym sends.process) fits) in
      subst (λ (t : List ℕ). Writes from t rest) (sym (bytes_of_effects effects))
      (writes_then from (all_sent outputs) (flat_map frame_bytes effects.answers.items) (from.at number).answers rest sends tells)

  pub writes_all : (events : List LoopEvent) (n : ℕ) (from : Processes) → HaveAllFrames (from.at number).frames n events →
      (from.at number).answers ≡ waiting_answers n events →
      n + length (all_logged (all_outputs events)) ≤ (from.at number).synced →
      Writes from (all_sent (all_outputs events)) []
  writes_all [] n from have waits fits = record {
    to = from;
    leads = leads_nowhere names number from;
    process = ap (λ (them : List WaitingAnswers). record (from.at number) { answers = them }) waits;
  }
  writes_all (Notes bytes ∷ events) n from have waits fits = writes_all events n from have waits fits
  writes_all (Handles frame effects ∷ events) n from have waits fits =
      let all = n + length (entries_in effects.outputs.items) in
      let outputs = all_outputs events in
      let long = ap (λ (es : List Strings). length es) (flat_map-append logged_of (effects_outputs effects) outputs)
      ∙ length-append (all_logged (effects_outputs effects)) (all_logged outputs)
      ∙ ap (λ (es : List Strings). length es + length (all_logged outputs)) (effects_logged effects) in
      let fits-all : all + length (all_logged outputs) ≤ (from.at number).synced = omega (arith, fits, long) in
      let first = writes_frame effects n (waiting_answers all events) from have.0 waits (omega (arith, fits-all)) in
      let rest = writes_all events all first.to (subst (λ (p : Process). HaveAllFrames p.frames all events) (sym first.process) have.1)
      (ap (λ (p : Process). p.answers) first.process)
      (subst (λ (p : Process). all + length (all_logged outputs) ≤ p.synced) (sym first.process) fits-all) in
      subst (λ (t : List ℕ). Writes from t []) (sym (flat_map-append sent_of (effects_outputs effects) outputs))
      (writes_then from (all_sent (effects_outputs effects)) (all_sent outputs) (waiting_answers all events) [] first rest)

  -- First outputs

  -- events lead here that write at least what these outputs send, and the log stays as it is
  pub record WritesAtLeast (from : Processes) (first : List Output) : Type 0 where
    pub to : Processes
    pub written : List ℕ
    pub back : List ℕ
    pub leads : LeadsTo names number from written to
    pub all : written ≡ all_sent first ++ back
    pub log : (to.at number).log ≡ (from.at number).log
    pub synced : (to.at number).synced ≡ (from.at number).synced

  pub at_least : (from : Processes) (first more : List Output) (written : List ℕ) (answers : List WaitingAnswers) →
      written ≡ all_sent (first ++ more) → Writes from written answers → WritesAtLeast from first
  at_least from first more written answers same writes = record {
    to = writes.to;
    written = written;
    back = all_sent more;
    leads = writes.leads;
    all = same ∙ flat_map-append sent_of first more;
    log = ap (λ (p : Process). p.log) writes.process;
    synced = ap (λ (p : Process). p.synced) writes.process;
  }

  pub at_least_then : (from : Processes) (first more whole : List Output) (answers : List WaitingAnswers)
      (writes : Writes from (all_sent first) answers) → whole ≡ first ++ more → WritesAtLeast writes.to more →
      WritesAtLeast from whole
  at_least_then from first more whole answers writes same rest = record {
    to = rest.to;
    written = all_sent first ++ rest.written;
    back = rest.back;
    leads = leads_on names number from writes.to rest.to (all_sent first) rest.written writes.leads rest.leads;
    all = ap (λ (t : List ℕ). all_sent first ++ t) rest.all
        ∙ sym (append_assoc (all_sent first) (all_sent more) rest.back)
        ∙ ap (λ (t : List ℕ). t ++ rest.back) (sym (flat_map-append sent_of first more))
        ∙ ap (λ (os : List Output). all_sent os ++ rest.back) (sym same);
    log = rest.log ∙ ap (λ (p : Process). p.log) writes.process;
    synced = rest.synced ∙ ap (λ (p : Process). p.synced) writes.process;
  }
