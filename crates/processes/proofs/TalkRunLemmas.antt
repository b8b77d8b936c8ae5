-- What is known of the connections of a process's clients after any events.
use Rattle.std.proofs.Common.{◌≡◌, ℕ, Bool, true, false, cond, eqb, eqb-true, eq-eqb, List, [], ◌∷◌, ◌++◌, length, drop, None, Some}
use Rattle.std.proofs.Common.{refl, sym, subst, ap, ◌∙◌, append-nil}
use Rattle.std.proofs.lemmas.Option.{same_Some}
use Rattle.deeds.specs.Deeds.{Notice}
use Rattle.deeds.specs.Kept.{FileOfNames}
use Rattle.node.specs.declared.node.Node.{Node}
use Rattle.node_strings.specs.Arrival.{arrival_at}
use Rattle.processes.specs.Answers.{Talk, answers_to, own_talk_after, passed_at, talk_after, talk_of}
use Rattle.processes.specs.Events.{MayHappenTo, ProcessEvent, first_told, number_of, process_after, processes_after}
use Rattle.processes.specs.Events.{seen_in}
use Rattle.processes.specs.Loops.{first_frames}
use Rattle.processes.specs.Processes.{Process, Processes}
use Rattle.processes.specs.Runs.{AreOfPrograms, IsOfPrograms, MayAllHappenTo, processes_run}
use Rattle.processes.proofs.ServiceAnswerLemmas.{HasDeskIf}
use Rattle.processes.proofs.ServiceIdLemmas.{was_not}
use Rattle.processes.proofs.StartedTalkLemmas.{started_desk}
use Rattle.processes.proofs.TalkEventLemmas.{AreTalks, seen_more, talks_noted, talks_rewritten, talks_stopped, talks_told}
use Rattle.processes.proofs.TalkEventLemmas.{view_at}
use Rattle.processes.proofs.ToldOnlyLemmas.{AllTellOnly, TellOnly, all_tell_after}
use Rattle.processes.proofs.OwnSourceLemmas.{AllOwn, handled_given, handled_later, other_fresh, own_after, own_process}
use Rattle.processes.proofs.HeardTalkLemmas.{heard_reused}
use Rattle.processes.proofs.TalkHandledLemmas.{talks_handled}

-- Events of the process itself

-- what is known of a process's connections
abbrev pub TalksAt : (number : ℕ) → Processes → (talks : ℕ → Talk) → Type 0
TalksAt number processes talks = AreTalks number processes.seen (processes.at number).running (processes.at number).answers talks

-- what is known, unless the number of a connection was used twice
abbrev pub TalksIf : (number : ℕ) → Processes → (talks : ℕ → Talk) → Type 0
TalksIf number processes talks = ((client : ℕ) → (talks client).reused ≡ false) → TalksAt number processes talks

-- the talks after an event of the process
abbrev pub own_talks : Processes → ProcessEvent → (talks : ℕ → Talk) → ℕ → Talk
own_talks processes event talks client = own_talk_after client processes event (talks client)

own_event : (names : FileOfNames) (processes : Processes) (event : ProcessEvent) (talks : ℕ → Talk) → MayHappenTo names processes event →
    IsOfPrograms processes event → AllOwn processes → AllTellOnly processes → TalksIf (number_of event) processes talks →
    ((client : ℕ) → (own_talks processes event talks client).reused ≡ false) →
    AreTalks (number_of event) (processes.seen ++ seen_in (processes.at (number_of event)) event)
    (process_after (processes.at (number_of event)) event).running (process_after (processes.at (number_of event)) event).answers
    (own_talks processes event talks)
own_event names processes (ProcessEvent.Starts number read anew new copy after) talks may of all only known unused = record {
  file = after.keeper.file;
  ids = after.keeper.ids;
  own = (own_process names processes (ProcessEvent.Starts number read anew new copy after) may all after refl).own;
  runs = λ node e. (let same = same_Some after node e in
      (ap (λ (n : Node). n.keeper.ids) (sym same), ap (λ (n : Node). n.keeper.file) (sym same)));
  each = λ client. record {
    left = [];
    named = λ own e. same_Some after.keeper.file own e;
    replied = λ small. ([], refl, refl);
    has = λ node e. subst (λ (n : Node). HasDeskIf client number after.keeper.file false
        (view_at (processes.seen ++ []) [] after.keeper.ids) n.desk []) (same_Some after node e)
        (started_desk client number after.keeper.file (view_at (processes.seen ++ []) [] after.keeper.ids) new copy after read of
        may.is_new.calls may.recovered may.desk);
  };
}
own_event names processes (ProcessEvent.Notes number after) talks may of all only known unused =
    subst (λ ns. AreTalks number ns (Some after) (processes.at number).answers talks) (sym (append-nil processes.seen))
    (talks_noted number processes.seen (processes.at number).running (processes.at number).answers talks (known unused) may.0 after may.1
    (ap (λ (n : Node). n.keeper) may.2.1) (ap (λ (n : Node). n.desk.clients) may.2.1) (ap (λ (n : Node). n.desk.calls) may.2.1))
own_event names processes (ProcessEvent.Handles number frame effects after) talks may of all only known unused =
    let process = processes.at number in
    let node = may.0.0 in
    let was = known (λ client. heard_reused client (length processes.seen) (arrival_at frame) (talks client) (unused client)) in
    talks_handled number processes.seen node after process.answers talks frame effects _ may.0.2 (all number node may.0.1).within
    (handled_later node after frame effects may.0.2)
    (λ place id begins given. (let one = (handled_given node after frame effects may.0.2).given place id begins in
    was_not node.keeper.ids one.0 id one.1 given)) unused
    (subst (λ r. AreTalks number processes.seen r process.answers talks) may.0.1 was)
own_event names processes (ProcessEvent.Syncs number count) talks may of all only known unused =
    subst (λ ns. AreTalks number ns (processes.at number).running (processes.at number).answers talks) (sym (append-nil processes.seen))
    (known unused)
own_event names processes (ProcessEvent.Sends number frame) talks may of all only known unused =
    subst (λ ns. AreTalks number ns (processes.at number).running (processes.at number).answers talks) (sym (append-nil processes.seen))
    (known unused)
own_event names processes (ProcessEvent.Tells number) talks may of all only known unused =
    let process = processes.at number in
    subst (λ xs. AreTalks number (processes.seen ++ first_told xs) process.running (drop 1 xs)
    (λ client. record (talks client) {
      answers = (talks client).answers ++ passed_at (length (processes.seen ++ first_told xs)) (answers_to client (first_frames xs));
    })) (sym may.2)
    (talks_told number processes.seen process.running may.0 may.1 talks (subst TellOnly may.2 (only number))
    (subst (λ xs. AreTalks number processes.seen process.running xs talks) may.2 (known unused)))
own_event names processes (ProcessEvent.Rewrites number entries) talks may of all only known unused =
    subst (λ ns. AreTalks number ns (processes.at number).running [] talks) (sym (append-nil processes.seen))
    (talks_rewritten number processes.seen (processes.at number).running (processes.at number).answers talks of (known unused))
own_event names processes (ProcessEvent.Stops number) talks may of all only known unused =
    subst (λ ns. AreTalks number ns None [] talks) (sym (append-nil processes.seen))
    (talks_stopped number processes.seen (processes.at number).running (processes.at number).answers talks (known unused))

-- Any event

one_event : (names : FileOfNames) (processes : Processes) (event : ProcessEvent) (number : ℕ) (talks : ℕ → Talk) →
    MayHappenTo names processes event → (number_of event ≡ number → IsOfPrograms processes event) → AllOwn processes →
    AllTellOnly processes → TalksIf number processes talks → TalksIf number (processes_after processes event)
    (λ client. talk_after number client processes event (talks client))
one_event names processes event number talks may of all only known unused = go (eqb (number_of event) number) refl unused
  where
    own : ℕ
    own = number_of event

    seen : List Notice
    seen = processes.seen ++ seen_in (processes.at own) event

    there : Process
    there = (processes_after processes event).at number

    After : (ℕ → Talk) → Type 0
    After now = AreTalks number seen there.running there.answers now

    own_there : number ≡ own → there ≡ process_after (processes.at own) event
    own_there same = ap (λ b. cond b (process_after (processes.at own) event) (processes.at number)) (eq-eqb number own same)

    other_there : (b : Bool) → eqb number own ≡ b → (own ≡ number → ⊥) → there ≡ processes.at number
    other_there true t differ = absurd (differ (sym (eqb-true number own t)))
    other_there false t differ = ap (λ b. cond b (process_after (processes.at own) event) (processes.at number)) t

    go : (b : Bool) → eqb own number ≡ b →
        ((client : ℕ) → (cond b (own_talks processes event talks client) (talks client)).reused ≡ false) →
        After (λ client. cond b (own_talks processes event talks client) (talks client))
    go true t unused =
        let same : own ≡ number = eqb-true own number t in
        subst (λ (p : Process). AreTalks number seen p.running p.answers (own_talks processes event talks)) (sym (own_there (sym same)))
        (subst (λ n. AreTalks n seen (process_after (processes.at own) event).running (process_after (processes.at own) event).answers
        (own_talks processes event talks)) same
        (own_event names processes event talks may (of same) all only (subst (λ n. TalksIf n processes talks) (sym same) known) unused))
    go false t unused =
        let differ : own ≡ number → ⊥ = λ same. absurd (let wrong : false ≡ true = sym t ∙ eq-eqb own number same in cc) in
        let is = known unused in
        subst (λ (p : Process). AreTalks number seen p.running p.answers talks) (sym (other_there (eqb number own) refl differ))
        (seen_more number processes.seen (processes.at number).running (processes.at number).answers talks is
        (seen_in (processes.at own) event) (other_fresh names processes event number is.ids may all only differ is.own))

-- all events

pub all_events : (names : FileOfNames) (number : ℕ) (events : List ProcessEvent) (processes : Processes) (talks : ℕ → Talk) →
    MayAllHappenTo names events processes → AreOfPrograms number events processes → AllOwn processes → AllTellOnly processes →
    TalksIf number processes talks → TalksIf number (processes_run events processes)
    (λ client. talk_of number client events processes (talks client))
all_events names number [] processes talks may of all only known = known
all_events names number (event ∷ events) processes talks may of all only known =
    all_events names number events (processes_after processes event) (λ client. talk_after number client processes event (talks client))
    may.1 of.1 (own_after names processes event may.0 all) (all_tell_after processes event only)
    (one_event names processes event number talks may.0 of.0 all only known)
