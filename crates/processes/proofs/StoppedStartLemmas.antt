-- A start that fails is a list of events of its process.
use Rattle.std.proofs.Common.{◌≡◌, ◌≤◌, ◌+◌, ◌⊎◌, inl, inr, ℕ, List, [], ◌++◌, length, take, drop, Option, None, Some}
use Rattle.std.proofs.Common.{refl, sym, subst, ap, ◌∙◌, append-nil, length-append, arith}
use Rattle.std.proofs.lemmas.List.{take-append-drop}
use Rattle.std.specs.Io.KnownBytes.{Appends}
use Rattle.deeds.specs.CallId.{with_next_epoch}
use Rattle.deeds.specs.Kept.{FileOfNames}
use Rattle.node_clients.specs.Desk.{NoneWaits}
use Rattle.recoveries.specs.Records.{IsStarted}
use Rattle.node.specs.Anew.{AreAnew}
use Rattle.node.specs.Starts.{CanBeNamed, HasMoreEpochs, start_entries}
use Rattle.node.specs.declared.node.Node.{Node}
use Rattle.node_keeper.specs.Keeping.{kept_of}
use Rattle.node_log.specs.Entry.{chain_behind, first_chain}
use Rattle.node_strings.specs.Strings.{Strings}
use Rattle.node_store.specs.Laws.{IsLeft, LeftLogIsRead}
use Rattle.node_store.specs.Recovery.{log_bytes}
use Rattle.node_store.specs.Rewriting.{KeepsOrBecomes}
use Rattle.node_store.specs.Steps.{IsFront}
use Rattle.node_store.specs.declared.end.LogEnd.{LogEnd}
use Rattle.node_store.proofs.GrowthLemmas.{Known}
use Rattle.processes.specs.Events.{AreAnewIf, MayStart, ProcessEvent, found_log, found_synced, processes_after, started_process}
use Rattle.processes.specs.Loops.{HaveEvents}
use Rattle.processes.specs.Processes.{Process, Processes}
use Rattle.processes.specs.Programs.{IsPartlyCut, IsReadLog, IsRewrittenIf, IsStoppedAt, StartStage}
use Rattle.processes.specs.Runs.{AreReached}
use Rattle.processes.specs.StoppedStarts.{IsStoppedWith, StoppedStartsAreEvents}
use Rattle.processes.proofs.LeadLemmas.{leads_nowhere, leads_on, leads_once, own_process}
use Rattle.processes.proofs.LeftAfterLemmas.{left_front, left_grown, left_least}
use Rattle.processes.proofs.ProgramLemmas.{carried_all, cut_at, found_if, kept_as, reached_whole}
use Rattle.processes.proofs.ReadLogLemmas.{AreFirst, first_read}
use Rattle.processes.proofs.RoundLawLemmas.{have_events, log_grows}

-- events that write nothing, and after which the process is stopped, with what its log keeps
abbrev pub Leaves : (keeps : Known) → (written : List ℕ) → Process → Type 0
Leaves keeps written process = (written ≡ []) × IsStoppedWith process keeps

-- nothing happens
stays : (names : FileOfNames) (number : ℕ) (processes : Processes) (keeps : Known) (now : List ℕ) →
    (processes.at number).running ≡ None → keeps ≡ Some now →
    IsLeft (processes.at number).log (processes.at number).synced now → HaveEvents names number processes (Leaves keeps)
stays names number processes keeps now stopped is left =
    have_events names number processes processes [] (Leaves keeps) (leads_nowhere names number processes)
    (refl, (stopped, (now, is, left)))

-- the process starts and stops again
starts_and_stops : (names : FileOfNames) (number : ℕ) (processes : Processes) (read : List Strings)
    (anew : Option (List Strings)) (new copy after : Node) (keeps : Known) (now : List ℕ) →
    MayStart names number (processes.at number) read anew new copy after → NoneWaits new.desk.clients [] → keeps ≡ Some now →
    IsLeft (found_log read anew ++ start_entries copy) (found_synced (processes.at number).synced anew) now →
    HaveEvents names number processes (Leaves keeps)
starts_and_stops names number processes read anew new copy after keeps now may idle is left =
    let event = ProcessEvent.Starts number read anew new copy after in
    let next = processes_after processes event in
    let started = started_process (processes.at number) read anew copy after in
    let stops = ProcessEvent.Stops number in
    let to = processes_after next stops in
    let same : to.at number ≡ record started { running = None; frames = []; answers = [] } =
    own_process next.at number (record (next.at number) { running = None; frames = []; answers = [] })
    ∙ ap (λ (p : Process). record p { running = None; frames = []; answers = [] })
    (own_process processes.at number started) in
    have_events names number processes to [] (Leaves keeps)
    (leads_on names number processes next to [] [] (leads_once names number processes event refl may idle)
    (leads_once names number next stops refl tt tt)) (
      refl,
      (
        ap (λ (p : Process). p.running) same,
        (now, is, subst (λ (p : Process). IsLeft p.log p.synced now) (sym same) left),
      ),
    )

-- a node that has begun one more epoch
started_copy : (copy : Node) → HasMoreEpochs copy.keeper.ids →
    (after : Node) × IsStarted (kept_of copy.keeper) (kept_of after.keeper) × (after.desk ≡ copy.desk)
started_copy copy more = (
  record copy { keeper = record copy.keeper { ids = with_next_epoch copy.keeper.ids } },
  record { file = refl; more = more; ids = refl; objects = λ name. refl },
  refl,
)

module _ (law : LeftLogIsRead) (processes : Processes) (reached : AreReached processes) (number : ℕ) (disk : List ℕ)
    (stopped : (processes.at number).running ≡ None)
    (left : IsLeft (processes.at number).log (processes.at number).synced disk) where
  -- what was read of the log
  module _ (copy : Node) (end : LogEnd) (found : IsReadLog reached.names number disk copy end) where
    abbrev read : List Strings
    read = found.recovered.0

    first : AreFirst (processes.at number) read
    first = first_read law (processes.at number) read disk (reached_whole law processes reached number)
        found.recovered.1.0 left found.recovered.1.3

    cut_is : take end.length disk ≡ log_bytes first_chain read
    cut_is = cut_at first_chain read found.recovered.1.3.0 disk end.length found.recovered.1.3.1 found.recovered.1.2

    -- a stop may leave just that
    left_read : IsLeft (processes.at number).log (processes.at number).synced (log_bytes first_chain read)
    left_read =
        let log = (processes.at number).log in
        let rest = drop (length read) log in
        let whole : read ++ rest ≡ log =
        ap (λ (es : List Strings). es ++ rest) (sym first.those) ∙ take-append-drop (length read) log in
        subst (λ (es : List Strings). IsLeft es (processes.at number).synced (log_bytes first_chain read)) whole
        (subst (λ (t : List ℕ). IsLeft (read ++ rest) (processes.at number).synced t) (append-nil (log_bytes first_chain read))
        (left_grown read rest (processes.at number).synced [] (log_bytes (chain_behind first_chain read) rest) first.least refl))

    -- the log is as it was read
    pub stays_read : (keeps : Known) → keeps ≡ Some (take end.length disk) →
        HaveEvents reached.names number processes (Leaves keeps)
    stays_read keeps is =
        stays reached.names number processes keeps (log_bytes first_chain read) stopped (is ∙ ap Some cut_is) left_read

    -- a front is kept of bytes that a stop may leave, and it is long enough
    pub stays_cut : (keeps : Known) (kept whole now : List ℕ) →
        IsLeft (processes.at number).log (processes.at number).synced kept →
        IsLeft (processes.at number).log (processes.at number).synced whole → keeps ≡ Some now → IsFront now whole →
        (end.length ≤ length now) ⊎ (length kept ≤ length now) → HaveEvents reached.names number processes (Leaves keeps)
    stays_cut keeps kept whole now left_kept left_whole is (rest, front) enough =
        stays reached.names number processes keeps now stopped is
        (left_front (processes.at number).log (processes.at number).synced whole now rest left_whole front (long enough))
      where
        least : List ℕ
        least = log_bytes first_chain (take (processes.at number).synced (processes.at number).log)

        within : (bytes : List ℕ) → IsLeft (processes.at number).log (processes.at number).synced bytes →
            length least ≤ length bytes
        within bytes is_left =
            let has = left_least (processes.at number).log (processes.at number).synced bytes is_left in
            let both : length bytes ≡ length least + length has.0 =
            ap (λ (t : List ℕ). length t) has.1 ∙ length-append least has.0 in omega (arith, both)

        long : (end.length ≤ length now) ⊎ (length kept ≤ length now) → length least ≤ length now
        long (inl most) =
            let some = within (log_bytes first_chain read) left_read in
            let all : end.length ≡ length (log_bytes first_chain read) = found.recovered.1.2 in omega (arith, some, all, most)
        long (inr most) = let some = within kept left_kept in omega (arith, some, most)

    -- the log was perhaps written anew, the node started, and the log got some first bytes of the entries of the start
    pub starts_read : (keeps between : Known) (then : LogEnd) (anew : Option (List Strings)) (after : Node) (added back : List ℕ) →
        AreAnewIf copy anew → IsRewrittenIf anew (Some (take end.length disk)) end between then → CanBeNamed copy →
        IsStarted (kept_of copy.keeper) (kept_of after.keeper) → after.desk ≡ copy.desk →
        log_bytes then.chain.state (start_entries copy) ≡ added ++ back → Appends between keeps added →
        HaveEvents reached.names number processes (Leaves keeps)
    starts_read keeps between then anew after added back are rewritten named started desk bytes appends =
        let log = found_log read anew in
        let is = found_if read anew (take end.length disk) between end then cut_is found.recovered.2 rewritten in
        starts_and_stops reached.names number processes read anew found.new copy after keeps
        (log_bytes first_chain log ++ added)
        (record {
          stopped = stopped;
          disk = disk;
          left = left;
          whole = found.recovered.1.0;
          begins = found.recovered.1.3;
          is_new = found.is_new.new;
          recovered = carried_all found.new copy read found.recovered.1.1;
          rewritten = are;
          named = named;
          started = started;
          desk = desk;
        })
        found.is_new.idle
        (log_grows log (start_entries copy) then.chain.state between keeps is.bytes is.chained added appends)
        (left_grown log (start_entries copy) (found_synced (processes.at number).synced anew) added back (fits anew)
        (ap (λ (c : ℕ). log_bytes c (start_entries copy)) (sym is.chained) ∙ bytes))
      where
        fits : (anew : Option (List Strings)) →
            found_synced (processes.at number).synced anew ≤ length (found_log read anew)
        fits None = first.least
        fits (Some entries) = omega arith

    -- the log was written anew, and no more
    pub renews_read : (keeps : Known) (entries : List Strings) → AreAnew copy entries →
        keeps ≡ Some (log_bytes first_chain entries) → HasMoreEpochs copy.keeper.ids →
        HaveEvents reached.names number processes (Leaves keeps)
    renews_read keeps entries anew is more =
        let after = started_copy copy more in
        let bytes = log_bytes (chain_behind first_chain entries) (start_entries copy) in
        starts_read keeps keeps
        (record {
          length = length (log_bytes first_chain entries);
          chain = record { state = chain_behind first_chain entries };
        })
        (Some entries) after.0 [] bytes anew (is, record { long = refl; chained = refl }) (λ unnamed. anew.named) after.1 after.2 refl
        (subst (λ (k : Known). Appends k k []) (sym is) (sym (append-nil (log_bytes first_chain entries))))

pub stopped_starts_are_events : LeftLogIsRead → StoppedStartsAreEvents
stopped_starts_are_events law processes reached number disk kept keeps stopped left left_kept fronts (stage, at) = go stage at
  where
    -- the log was to be cut, and what it keeps begins as the longer of the two: what was found, or what was kept
    cut_short : (copy : Node) (end : LogEnd) → IsReadLog reached.names number disk copy end →
        IsPartlyCut end.length disk (Some kept) keeps → IsFront kept disk ⊎ IsFront disk kept →
        HaveEvents reached.names number processes (Leaves keeps)
    cut_short copy end found cut (inl front) =
        let now = cut kept disk refl front ([], sym (append-nil disk)) in
        stays_cut law processes reached number disk stopped left copy end found keeps kept disk now.0 left_kept left now.1 now.2
        now.3
    cut_short copy end found cut (inr front) =
        let now = cut kept kept refl ([], sym (append-nil kept)) front in
        stays_cut law processes reached number disk stopped left copy end found keeps kept kept now.0 left_kept left_kept now.1
        now.2 now.3

    perhaps : (copy : Node) (end then : LogEnd) → IsReadLog reached.names number disk copy end →
        HasMoreEpochs copy.keeper.ids → (anew : Option (List Strings)) → AreAnewIf copy anew →
        IsRewrittenIf anew (Some (take end.length disk)) end keeps then →
        HaveEvents reached.names number processes (Leaves keeps)
    perhaps copy end then found more None are is =
        stays_read law processes reached number disk stopped left copy end found keeps is.0
    perhaps copy end then found more (Some entries) are is =
        renews_read law processes reached number disk stopped left copy end found keeps entries are is.0 more

    half : (copy : Node) (end : LogEnd) → IsReadLog reached.names number disk copy end →
        HasMoreEpochs copy.keeper.ids → (entries : List Strings) → AreAnew copy entries →
        KeepsOrBecomes (Some (take end.length disk)) keeps (Some (log_bytes first_chain entries)) →
        HaveEvents reached.names number processes (Leaves keeps)
    half copy end found more entries anew (inl same) =
        stays_read law processes reached number disk stopped left copy end found keeps
        (kept_as (Some (take end.length disk)) keeps (take end.length disk) refl same)
    half copy end found more entries anew (inr becomes) =
        renews_read law processes reached number disk stopped left copy end found keeps entries anew becomes more

    go : (stage : StartStage) → IsStoppedAt stage reached.names number disk (Some kept) keeps →
        HaveEvents reached.names number processes (Leaves keeps)
    go StartStage.Reading is = stays reached.names number processes keeps kept stopped is left_kept
    go StartStage.Cutting (copy, end, found, cut) = cut_short copy end found cut fronts
    go StartStage.Asking (copy, end, found, none, is) =
        stays_read law processes reached number disk stopped left copy end found keeps is
    go StartStage.Exchanging (copy, end, found, more, (entries, anew, either)) =
        half copy end found more entries anew either
    go StartStage.Starting (copy, end, then, found, more, (anew, are, is)) =
        perhaps copy end then found more anew are is
    go StartStage.Appending (copy, node, end, then, between, found, (anew, are, is), begun) =
        let added = begun.appended in
        starts_read law processes reached number disk stopped left copy end found keeps between then anew node added.0 added.1
        are is begun.named begun.started begun.desk added.2 added.3
