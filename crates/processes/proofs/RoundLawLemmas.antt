-- A round of the loop is a list of events of the process.
use Rattle.std.proofs.Common.{◌≡◌, ◌≤◌, ◌+◌, ℕ, Bool, true, false, List, [], ◌∷◌, ◌++◌, length, take, Option, None, Some}
use Rattle.std.proofs.Common.{refl, sym, subst, ap, ◌∙◌, append_assoc, append-nil, length-append, arith}
use Rattle.std.proofs.lemmas.Grind.{flat_map-append}
use Rattle.std.specs.List.{AllByRecursion, FoldsTo}
use Rattle.std.specs.Io.KnownBytes.{Appends}
use Rattle.deeds.specs.Kept.{FileOfNames}
use Rattle.node.specs.Handles.{Handles as HandlesFrame}
use Rattle.node.specs.Recovering.{Notes as NotesLength}
use Rattle.node.specs.declared.node.Node.{Node}
use Rattle.node_log.specs.Entry.{chain_behind, first_chain}
use Rattle.node_effects.specs.declared.output.Output.{Output}
use Rattle.node_strings.specs.Strings.{Strings}
use Rattle.node_store.specs.Laws.{IsLeft}
use Rattle.node_store.specs.Outputs.{AppendsFront, AppendsPart, all_logged, all_sent, bytes_logged, chain_after_all, logged_of}
use Rattle.node_store.specs.Recovery.{log_bytes}
use Rattle.node_store.specs.Serving.{BeginsWithFrames, Happens, LoopEvent, ReadsFrames, ServesSome, StopsEarly, StopsServing}
use Rattle.node_store.specs.Serving.{all_outputs}
use Rattle.node_store.specs.declared.stop.ServeError.{ServeError}
use Rattle.node_store.proofs.LogBytesLemmas.{bytes_then, chain_then}
use Rattle.processes.specs.Events.{ProcessEvent, processes_after}
use Rattle.processes.specs.Loops.{AreOf, BringsWritten, HaveEvents, IsBetweenRounds, WasWrittenIn, written_in}
use Rattle.processes.specs.Loops.{RoundsAreEvents, StopsAreEvents}
use Rattle.processes.specs.Processes.{Process, Processes}
use Rattle.processes.specs.Runs.{MayAllHappenTo, processes_run}
use Rattle.processes.proofs.FirstWrittenLemmas.{writes_front}
use Rattle.processes.proofs.HandledRoundLemmas.{Handled, after_events, handles_all, waiting_answers, waiting_frames}
use Rattle.processes.proofs.LeadLemmas.{LeadsTo, leads_on, leads_once, own_process}
use Rattle.processes.proofs.LogLemmas.{take_beyond}
use Rattle.processes.proofs.WrittenEventLemmas.{writes_all}
use Rattle.processes.proofs.WrittenRoundLemmas.{HaveAllFrames, all_frames_among, all_own_frames, waits_second}

-- Bytes of logs

pub log_grows : (log more : List Strings) (chain : ℕ) (kept keeps : Option (List ℕ)) → kept ≡ Some (log_bytes first_chain log) →
    chain ≡ chain_behind first_chain log → (added : List ℕ) → Appends kept keeps added →
    keeps ≡ Some (log_bytes first_chain log ++ added)
log_grows log more chain kept keeps known chained added appends = go keeps (subst (λ k. Appends k keeps added) known appends)
  where
    go : (now : Option (List ℕ)) → Appends (Some (log_bytes first_chain log)) now added →
        now ≡ Some (log_bytes first_chain log ++ added)
    go None is = absurd is
    go (Some bytes) is = ap Some is

module _ (names : FileOfNames) (number : ℕ) where
  -- events that lead somewhere are events of which something holds
  pub have_events : (from to : Processes) (written : List ℕ) (Holds : (written : List ℕ) → Process → Type 0) →
      LeadsTo names number from written to → Holds written (to.at number) → HaveEvents names number from Holds
  have_events from to written Holds leads holds = record {
    events = leads.events;
    own = leads.own;
    may = leads.may;
    programs = leads.programs;
    holds = subst (λ (at : Processes). Holds (written_in leads.events from) (at.at number)) (sym leads.ends)
        (subst (λ (t : List ℕ). Holds t (to.at number)) (sym leads.writes) holds);
  }

  -- a process between two rounds handles the frames of some events, and then some first entries of its log are synced
  pub record HandledAndSynced (from : Processes) (events : List LoopEvent) (new : Node) (count : ℕ) : Type 0 where
    pub to : Processes
    pub leads : LeadsTo names number from [] to
    pub runs : (to.at number).running ≡ Some new
    pub log : (to.at number).log ≡ (from.at number).log ++ all_logged (all_outputs events)
    pub synced : (to.at number).synced ≡ count
    pub frames : HaveAllFrames (to.at number).frames (length (from.at number).log) events
    pub answers : (to.at number).answers ≡ waiting_answers (length (from.at number).log) events

  pub handles_and_syncs : (from : Processes) (old new : Node) (chain : ℕ) (kept : Option (List ℕ)) (events : List LoopEvent)
      (count : ℕ) → IsBetweenRounds (from.at number) old chain kept → FoldsTo (Happens HandlesFrame NotesLength) old events new →
      AllByRecursion (WasWrittenIn from number) events → length (from.at number).log ≤ count →
      count ≤ length ((from.at number).log ++ all_logged (all_outputs events)) → HandledAndSynced from events new count
  handles_and_syncs from old new chain kept events count rests folds were least most =
      let process = from.at number in
      let n = length process.log in
      let handled = handles_all names number events from old new rests.runs folds were in
      let after = after_events process events new in
      let event = ProcessEvent.Syncs number count in
      let to = processes_after handled.to event in
      let same : to.at number ≡ record after { synced = count } =
      own_process handled.to.at number (record (handled.to.at number) { synced = count })
      ∙ ap (λ (p : Process). record p { synced = count }) handled.process in
      let within : ((handled.to.at number).synced ≤ count) × (count ≤ length (handled.to.at number).log) =
      subst (λ (p : Process). (p.synced ≤ count) × (count ≤ length p.log)) (sym handled.process)
      (subst (λ (s : ℕ). s ≤ count) (sym rests.synced) least, most) in record {
        to = to;
        leads = leads_on names number from handled.to to [] [] handled.leads (leads_once names number handled.to event refl within tt);
        runs = ap (λ (p : Process). p.running) same;
        log = ap (λ (p : Process). p.log) same;
        synced = ap (λ (p : Process). p.synced) same;
        frames = subst (λ (p : Process). HaveAllFrames p.frames n events) (sym same)
            (all_frames_among (waiting_frames n events) (process.frames ++ waiting_frames n events)
            (waits_second process.frames (waiting_frames n events)) n events (all_own_frames n events));
        answers = ap (λ (p : Process). p.answers) same ∙ ap (λ them. them ++ waiting_answers n events) rests.told;
      }

pub rounds_are_events : RoundsAreEvents
rounds_are_events names number processes chain then old new input left kept keeps held holds goes_on rests serves brings =
    let process = processes.at number in
    let events = serves.0 in
    let outputs = all_outputs events in
    let log = process.log ++ all_logged outputs in
    let count = length log in
    let long = length-append process.log (all_logged outputs) in
    let synced = handles_and_syncs names number processes old new chain kept events count rests serves.1 (brings events serves.2)
    (omega (arith, long)) (omega arith) in
    let writes = writes_all names number events (length process.log) synced.to synced.frames synced.answers
    (subst (λ (s : ℕ). length process.log + length (all_logged outputs) ≤ s) (sym synced.synced) (omega (arith, long))) in
    let end = writes.process in
    let log-is : (writes.to.at number).log ≡ log = ap (λ (p : Process). p.log) end ∙ synced.log in
    let chained : then ≡ chain_behind first_chain log =
    serves.4 ∙ ap (λ (c : ℕ). chain_behind c (all_logged outputs)) rests.chained
    ∙ sym (chain_then first_chain process.log (all_logged outputs)) in
    let bytes : keeps ≡ Some (log_bytes first_chain log) =
    log_grows process.log (all_logged outputs) chain kept keeps rests.bytes rests.chained (bytes_logged chain outputs) serves.3.0
    ∙ ap (λ (c : ℕ). Some (log_bytes first_chain process.log ++ log_bytes c (all_logged outputs))) rests.chained
    ∙ ap Some (sym (bytes_then first_chain process.log (all_logged outputs))) in
    have_events names number processes writes.to (all_sent outputs)
    (λ written at. Appends held holds written × IsBetweenRounds at new then keeps)
    (leads_on names number processes synced.to writes.to [] (all_sent outputs) synced.leads writes.leads) (
      serves.3.1,
      record {
        runs = ap (λ (p : Process). p.running) end ∙ synced.runs;
        synced = ap (λ (p : Process). p.synced) end ∙ synced.synced ∙ ap (λ es. length es) (sym log-is);
        told = ap (λ (p : Process). p.answers) end;
        chained = chained ∙ ap (λ es. chain_behind first_chain es) (sym log-is);
        bytes = bytes ∙ ap (λ es. Some (log_bytes first_chain es)) (sym log-is);
      },
    )

pub stops_are_events : StopsAreEvents
stops_are_events names number processes chain old input kept keeps held holds error rests stops brings =
    let process = processes.at number in
    let events = stops.0 in
    let outputs = all_outputs events in
    let wrote = stops.4 in
    let first = wrote.0 in
    let rest = wrote.1 in
    let same = wrote.2 in
    let count = length process.log + length (all_logged first) in
    let both = ap all_logged same ∙ flat_map-append logged_of first rest in
    let long = length-append process.log (all_logged outputs)
    ∙ ap (λ (es : List Strings). length process.log + length es) both in
    let longer = length-append (all_logged first) (all_logged rest) in
    let synced = handles_and_syncs names number processes old stops.1 chain kept events count rests stops.2
    (brings events stops.3) (omega arith) (omega (arith, long, longer)) in
    let writes = writes_front names number events (length process.log) first rest synced.to same synced.frames synced.answers
    (subst (λ (s : ℕ). count ≤ s) (sym synced.synced) (omega arith)) in
    let log = process.log ++ all_logged outputs in
    let log-is : (writes.to.at number).log ≡ log = writes.log ∙ synced.log in
    let synced-is : (writes.to.at number).synced ≡ count = writes.synced ∙ synced.synced in
    let part = wrote.3 in
    let sent = wrote.4 in
    let least = bytes_logged chain first in
    let more = part.0 in
    let back = part.1 in
    let front = log_bytes first_chain process.log ++ (least ++ more) in
    let taken : take count log ≡ process.log ++ all_logged first =
    ap (λ (es : List Strings). take count (process.log ++ es)) both
    ∙ take_beyond process.log (all_logged first ++ all_logged rest) (length (all_logged first))
    ∙ ap (λ (es : List Strings). process.log ++ es) (front_of (all_logged first) (all_logged rest)) in
    let kept-is : front ≡ log_bytes first_chain (take count log) ++ more =
    sym (append_assoc (log_bytes first_chain process.log) least more)
    ∙ ap (λ (c : ℕ). (log_bytes first_chain process.log ++ log_bytes c (all_logged first)) ++ more) rests.chained
    ∙ ap (λ (t : List ℕ). t ++ more) (sym (bytes_then first_chain process.log (all_logged first)))
    ∙ ap (λ (es : List Strings). log_bytes first_chain es ++ more) (sym taken) in
    let all-is : log_bytes first_chain log ≡ front ++ back =
    bytes_then first_chain process.log (all_logged outputs)
    ∙ ap (λ (c : ℕ). log_bytes first_chain process.log ++ log_bytes c (all_logged outputs)) (sym rests.chained)
    ∙ ap (λ (t : List ℕ). log_bytes first_chain process.log ++ t) part.2
    ∙ sym (append_assoc (log_bytes first_chain process.log) (least ++ more) back) in
    have_events names number processes writes.to writes.written
    (λ written at. AppendsFront held holds written × ((disk : List ℕ) × (keeps ≡ Some disk) × IsLeft at.log at.synced disk))
    (leads_on names number processes synced.to writes.to [] writes.written synced.leads writes.leads) (
      (sent.0, sent.1 ++ writes.back, sent_is sent.0 sent.1 first writes.written writes.back sent.2 writes.all, sent.3),
      (
        front,
        log_grows process.log (all_logged outputs) chain kept keeps rests.bytes rests.chained (least ++ more) part.3,
        subst (λ (s : ℕ). IsLeft (writes.to.at number).log s front) (sym synced-is)
            (subst (λ (es : List Strings). IsLeft es count front) (sym log-is)
            (record {
              front = front;
              more = more;
              lost = back;
              zeros = 0;
              kept = kept-is;
              all = all-is;
              disk_is = sym (append-nil front);
            })),
      ),
    )
  where
    front_of : (xs ys : List Strings) → take (length xs) (xs ++ ys) ≡ xs
    front_of [] ys = refl
    front_of (x ∷ xs) ys = ap (λ (es : List Strings). x ∷ es) (front_of xs ys)

    sent_is : (begun left : List ℕ) (outs : List Output) (written back : List ℕ) → all_sent outs ≡ begun ++ left →
        written ≡ all_sent outs ++ back → written ≡ begun ++ (left ++ back)
    sent_is begun left outs written back sent all =
        all ∙ ap (λ (t : List ℕ). t ++ back) sent ∙ append_assoc begun left back
