-- Each event of processes, as at most one event of the cluster that goes beside them.
use Rattle.std.proofs.Common.{Option, None, Some, ◌≡◌, ◌⊎◌, inl, inr, ◌≤◌, ℕ, true, List, [], ◌∷◌, length, drop}
use Rattle.std.proofs.Common.{refl, sym, subst, ap, ◌∙◌, arith}
use Rattle.std.specs.List.{AllByRecursion, filter}
use Rattle.encoder.specs.Fragment.{fragment}
use Rattle.deeds.specs.Handled.{IsHandled}
use Rattle.deeds.specs.Ids.{IsLater}
use Rattle.deeds.proofs.IdLemmas.{later_then}
use Rattle.recoveries.specs.Stops.{sent_in}
use Rattle.node_keeper.specs.Wants.{left_by}
use Rattle.node_keeper.specs.declared.keeper.Keeper.{Keeper}
use Rattle.node.specs.declared.node.Node.{Node}
use Rattle.deeds.specs.Deeds.{Notice}
use Rattle.deeds.specs.Kept.{FileOfNames}
use Rattle.deeds.specs.Restarts.{IsRestarted}
use Rattle.open_calls.proofs.ListLemmas.{all_at}
use Rattle.node_strings.specs.Arrival.{arrival_at}
use Rattle.node_strings.specs.Strings.{Strings}
use Rattle.node_keeper.specs.Keeping.{kept_of}
use Rattle.node.specs.Frames.{letters_in}
use Rattle.node_store.specs.Laws.{LeftLogIsRead}
use Rattle.refinement.specs.Clusters.{NodeCluster}
use Rattle.processes.specs.Events.{MayHappenTo, ProcessEvent, first_told, is_begun, is_told, noticed_by, number_of}
use Rattle.processes.specs.Events.{process_after, processes_after}
use Rattle.processes.specs.Events.{MayStart, found_synced, started_process}
use Rattle.processes.specs.Events.ProcessEvent.{Starts, Notes, Handles, Syncs, Sends, Tells, Rewrites, Stops}
use Rattle.processes.specs.Laws.{IsNext}
use Rattle.processes.specs.Processes.{Process, Processes, WaitingAnswers}
use Rattle.processes.proofs.BesideLemmas.{GoesOn, own_before}
use Rattle.processes.proofs.CameLemmas.{came_sent}
use Rattle.processes.proofs.NotedLemmas.{noted_stands}
use Rattle.processes.proofs.SeenLemmas.{begun_only}
use Rattle.processes.proofs.FateLemmas.{AreSafe, fate, fate_by, most_remain, remaining, safe_remain}
use Rattle.processes.proofs.GivenIdLemmas.{HaveGivenIds, calls_given, deeds_begun, ids_later}
use Rattle.processes.proofs.KnownIdLemmas.{AreNew, RunsOn, ids_at, known_new, running_at, start_later}
use Rattle.processes.proofs.LogLemmas.{some_is}
use Rattle.processes.proofs.ToldOnlyLemmas.{first_tell}
use Rattle.processes.proofs.HandledStepLemmas.{handled_stands}
use Rattle.processes.proofs.StandingLemmas.{HandlesBeside}
use Rattle.processes.proofs.StandingLemmas.{AnswersStand, FrameStands, IsAmong, Stands}
use Rattle.processes.proofs.StandingLemmas.{left_in}
use Rattle.processes.proofs.ReadLogLemmas.{read_first}
use Rattle.processes.proofs.RenewedStepLemmas.{renewed_stands}
use Rattle.processes.proofs.StartedStepLemmas.{rewritten_stands, started_stands}
use Rattle.processes.specs.Letters.{IsCarried}
use Rattle.processes.proofs.OutcomeLemmas.{acts, none_among, quiet, restarts}

-- the answers that have waited longest are written
told_stands : (names : FileOfNames) (events : List ProcessEvent) (processes : Processes) (cluster : NodeCluster) (number : ℕ) →
    GoesOn names (Tells number ∷ events) processes cluster → (first : WaitingAnswers) (rest : List WaitingAnswers) →
    (processes.at number).answers ≡ first ∷ rest → first.behind ≤ left_in (fate events number) (processes.at number) →
    Stands names number (fate events number) (processes.at number) (cluster.nodes number) cluster.letters cluster.notices →
    (next : NodeCluster) × IsNext cluster next × GoesOn names events (processes_after processes (Tells number)) next
told_stands names events processes cluster number goes first rest waits early own =
    let process = processes.at number in
    let stands = AnswersStand (length process.log) (left_in (fate events number) process) cluster.notices in
    let all : AllByRecursion stands (first ∷ rest) = subst (λ xs. AllByRecursion stands xs) waits own.answers in
    quiet names (Tells number) events processes cluster goes (record {
      recorded = own.recorded;
      alive = own.alive;
      runs = own.runs;
      frames = own.frames;
      answers = subst (λ (xs : List WaitingAnswers). AllByRecursion stands (drop 1 xs)) (sym waits) all.1;
      sound = record { whole = own.sound.whole; fits = own.sound.fits };
      own_calls = own.own_calls;
      file = own.file;
    }) tt
    (λ notice told one. all.0.1 early notice (subst (λ (xs : List WaitingAnswers). IsAmong (first_told xs) notice) waits one))
    (λ one other id begins also. first_tell process.answers (goes.tell number) other id also) (λ given kept runs. runs)

-- an event, by its kind
pub one_step : LeftLogIsRead → (names : FileOfNames) (event : ProcessEvent) (events : List ProcessEvent) (processes : Processes)
    (cluster : NodeCluster) → GoesOn names (event ∷ events) processes cluster → MayHappenTo names processes event →
    AreSafe (fate_by event (fate events (number_of event))) (processes.at (number_of event)).synced →
    AreSafe (fate events (number_of event)) (process_after (processes.at (number_of event)) event).synced →
    (next : NodeCluster) × IsNext cluster next × GoesOn names events (processes_after processes event) next
one_step law names event events processes cluster goes may before then =
    go event goes may before then (own_before names event events processes cluster goes)
  where
    Goal : ProcessEvent → Type 0
    Goal e = (next : NodeCluster) × IsNext cluster next × GoesOn names events (processes_after processes e) next

    nothing : (notice : Notice) → is_told notice ≡ true → IsAmong [] notice → IsAmong cluster.notices notice
    nothing notice told is = absurd (none_among notice is)

    no_call : AreNew cluster.notices []
    no_call one other id begins also = absurd (none_among also.0 (other, also.1))

    go : (e : ProcessEvent) → GoesOn names (e ∷ events) processes cluster → MayHappenTo names processes e →
        AreSafe (fate_by e (fate events (number_of e))) (processes.at (number_of e)).synced →
        AreSafe (fate events (number_of e)) (process_after (processes.at (number_of e)) e).synced →
        Stands names (number_of e) (fate_by e (fate events (number_of e))) (processes.at (number_of e)) (cluster.nodes (number_of e))
        cluster.letters cluster.notices → Goal e
    go (Starts number read anew new copy after) goes may before then own =
        by (start_of anew may then own)
      where
        made : ProcessEvent
        made = Starts number read anew new copy after

        process : Process
        process = processes.at number

        Outcome : Option (List Strings) → Type 0
        Outcome a = Stands names number (fate events number) (started_process process read a copy after) (cluster.nodes number)
            cluster.letters cluster.notices
            ⊎ (IsRestarted (cluster.nodes number) (kept_of after.keeper)
            × Stands names number (fate events number) (started_process process read a copy after) (kept_of after.keeper)
            cluster.letters cluster.notices)

        start_of : (a : Option (List Strings)) → MayStart names number process read a new copy after →
            AreSafe (fate events number) (found_synced process.synced a) →
            Stands names number (fate_by (Starts number read a new copy after) (fate events number)) process (cluster.nodes number)
            cluster.letters cluster.notices → Outcome a
        start_of None may safe own =
            started_stands names number (fate events number) process (cluster.nodes number) cluster.letters cluster.notices read new
            copy after own (read_first law names number process read None new copy after own.sound may) may
        start_of (Some entries) may safe own =
            renewed_stands names number (fate events number) process (cluster.nodes number) cluster.letters cluster.notices read
            entries new copy after own (read_first law names number process read (Some entries) new copy after own.sound may) may safe

        later_of : (a : Option (List Strings)) → MayStart names number process read a new copy after →
            Stands names number (fate_by (Starts number read a new copy after) (fate events number)) process (cluster.nodes number)
            cluster.letters cluster.notices → IsLater (cluster.nodes number).ids after.keeper.ids
        later_of None may own =
            start_later names number (remaining (fate events number) (length read)) process (cluster.nodes number) cluster.letters
            cluster.notices read None new copy after (most_remain (fate events number) (length read)) own
            (read_first law names number process read None new copy after own.sound may) may
        later_of (Some entries) may own =
            start_later names number (length read) process (cluster.nodes number) cluster.letters cluster.notices read (Some entries) new
            copy after (omega arith) own (read_first law names number process read (Some entries) new copy after own.sound may) may

        runs : RunsOn (cluster.nodes number).ids process.running (Some after)
        runs given kept all node e =
            subst (λ (n : Node). IsLater given n.keeper.ids) (some_is after node e)
            (later_then given (cluster.nodes number).ids after.keeper.ids kept (later_of anew may own))

        by : Outcome anew → Goal made
        by (inl stands) = quiet names made events processes cluster goes stands tt nothing no_call runs
        by (inr again) =
            restarts names made events processes cluster goes (kept_of after.keeper) again.0 again.1 refl refl runs
    go (Notes number after) goes may before then own =
        quiet names (Notes number after) events processes cluster goes
        (noted_stands names number (fate events number) (processes.at number) (cluster.nodes number) cluster.letters cluster.notices
        may.0 after may.2.0 own may.1 may.2.1) tt nothing no_call
        (λ given kept runs node e. subst (λ (k : Keeper). IsLater given k.ids)
        (sym (ap (λ (n : Node). n.keeper) (sym (some_is after node e) ∙ may.2.1))) (runs may.0 may.1))
    go (Handles number frame effects after) goes may before then own =
        by (handled_stands names number (fate events number) (processes.at number) (cluster.nodes number) cluster.letters
        cluster.notices may.0.0 after frame effects own may.0.1 may.0.2)
      where
        made : ProcessEvent
        made = Handles number frame effects after

        node : Node
        node = may.0.0

        did : IsHandled fragment (kept_of node.keeper) (letters_in node.keeper frame) (kept_of after.keeper)
            (sent_in (left_by may.0.2.wants)) (noticed_by effects)
        did = may.0.2.handled.handled

        number_is : node.keeper.ids.node ≡ number
        number_is = (own.runs node may.0.1).number_is

        given : HaveGivenIds node.keeper.ids (noticed_by effects) after.keeper.ids
        given = subst (λ ns. HaveGivenIds node.keeper.ids ns after.keeper.ids) (sym did.seen)
            (deeds_begun fragment did.deeds (kept_of node.keeper).objects node.keeper.ids after.keeper.ids did.ids)

        later : IsLater node.keeper.ids after.keeper.ids
        later = ids_later node.keeper.ids after.keeper.ids did.deeds did.ids

        by : Stands names number (fate events number) (process_after (processes.at number) made) (cluster.nodes number)
            cluster.letters cluster.notices
            ⊎ HandlesBeside names number (fate events number) (process_after (processes.at number) made) (cluster.nodes number)
            (letters_in may.0.0.keeper frame) cluster.letters cluster.notices (noticed_by effects) → Goal made
        by (inl stands) =
            quiet names made events processes cluster goes stands tt
            (λ notice told one. absurd (begun_only (noticed_by effects) one.0 notice one.1 told))
            (known_new (running_at processes) (ids_at cluster) number node after.keeper.ids cluster.notices
            (filter is_begun (noticed_by effects)) may.0.1 number_is goes.known
            (calls_given node.keeper.ids after.keeper.ids (noticed_by effects) given))
            (λ first kept runs next e. subst (λ (n : Node). IsLater first n.keeper.ids) (some_is after next e)
            (later_then first node.keeper.ids after.keeper.ids (runs node may.0.1) later))
        by (inr beside) =
            acts names made events processes cluster goes (letters_in may.0.0.keeper frame) (noticed_by effects) beside
            (came_sent cluster.letters may.0.0.keeper processes number (arrival_at frame) may.1 goes.sent) refl refl node after
            may.0.1 refl number_is given later
    go (Syncs number count) goes may before then own =
        quiet names (Syncs number count) events processes cluster goes (record {
          recorded = own.recorded;
          alive = own.alive;
          runs = own.runs;
          frames = own.frames;
          answers = own.answers;
          sound = record { whole = own.sound.whole; fits = may.1 };
          own_calls = own.own_calls;
          file = own.file;
        }) tt nothing no_call (λ given kept runs. runs)
    go (Sends number frame) goes may before then own =
        let process = processes.at number in
        let waits = all_at (FrameStands (length process.log) (left_in (fate events number) process) cluster.letters) process.frames
        may.0 may.1 own.frames may.2 in
        let safe = safe_remain (fate events number) process.synced (length process.log) before own.sound.fits in
        quiet names (Sends number frame) events processes cluster goes own
        (subst (IsCarried cluster.letters) may.3 (waits.1 (let early = may.4 in omega arith)), tt) nothing no_call
        (λ given kept runs. runs)
    go (Tells number) goes may before then own =
        told_stands names events processes cluster number goes may.0 may.1 may.2
        (let early = may.3 in
        let safe = safe_remain (fate events number) (processes.at number).synced (length (processes.at number).log) before own.sound.fits in
        omega arith) own
    go (Rewrites number entries) goes may before then own =
        quiet names (Rewrites number entries) events processes cluster goes
        (rewritten_stands names number (fate events number) (processes.at number) (cluster.nodes number) cluster.letters
        cluster.notices may.0.0 entries own may.0.1 may.0.2 then) tt nothing no_call (λ given kept runs. runs)
    go (Stops number) goes may before then own =
        quiet names (Stops number) events processes cluster goes (record {
          recorded = own.recorded;
          alive = λ node runs e. absurd (let wrong : None ≡ Some node = runs in cc);
          runs = λ node runs. absurd (let wrong : None ≡ Some node = runs in cc);
          frames = tt;
          answers = tt;
          sound = record { whole = own.sound.whole; fits = own.sound.fits };
          own_calls = own.own_calls;
          file = own.file;
        }) tt nothing no_call (λ given kept runs node e. absurd (let wrong : None ≡ Some node = e in cc))
