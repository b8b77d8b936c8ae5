-- The laws of the processes of a cluster.
use Rattle.std.proofs.Common.{◌≡◌, inl, inr, ℕ, List, [], ◌∷◌, slice_get, Some, refl, sym, subst, ap, eq-eqb, cond, arith}
use Rattle.std.proofs.lemmas.List.{take_all}
use Rattle.encoder.specs.Fragment.{fragment}
use Rattle.layout.specs.Layout.{IsLawful}
use Rattle.cluster_file.proofs.DigestLemmas.{placed_again}
use Rattle.deeds.specs.Deeds.{Notice}
use Rattle.deeds.specs.Kept.{FileOfNames, new_node}
use Rattle.recoveries.specs.Copies.{IsRecorded}
use Rattle.recoveries.proofs.OwnCallLemmas.{new_own_calls}
use Rattle.recoveries.proofs.RunLemmas.{new_recorded}
use Rattle.register.proofs.FragmentCodeLemmas.{fragments_are_code}
use Rattle.node_store.specs.Laws.{LeftLogIsRead}
use Rattle.refinement.specs.Clusters.{ClusterEvent, NodeCluster, cluster_after, cluster_run, new_cluster}
use Rattle.refinement.specs.Premises.{AreNodeEvents, IsReachedCluster}
use Rattle.refinement.proofs.ClusterLemmas.{atomic_clusters, valued_clusters}
use Rattle.processes.specs.Events.{ProcessEvent, number_of, process_after, processes_after}
use Rattle.processes.specs.Letters.{CarryLetters}
use Rattle.processes.specs.Runs.{AreReached}
use Rattle.processes.specs.Laws.{GoesBeside, IsClusterOf, IsNext, ProcessesAreAtomic, ProcessesHaveClusters, ProcessesKeepValues}
use Rattle.processes.specs.Processes.{Processes, new_process, new_processes}
use Rattle.processes.specs.Runs.{MayAllHappenTo, processes_run}
use Rattle.processes.proofs.BesideLemmas.{GoesOn}
use Rattle.processes.proofs.FateLemmas.{AreSafe, fate, fate_by, remaining}
use Rattle.processes.proofs.LogLemmas.{all_records}
use Rattle.processes.proofs.SafeLogLemmas.{all_whole_after, synced_safe}
use Rattle.processes.proofs.StandingLemmas.{HasWholeLog}
use Rattle.processes.proofs.StepLemmas.{one_step}

-- an empty log is whole
none_whole : HasWholeLog new_process
none_whole = record { whole = tt; fits = omega arith }

-- before the first event
begins : (names : FileOfNames) (events : List ProcessEvent) →
    GoesOn names events new_processes (new_cluster (λ number. names))
begins names events = record {
  each = λ number. record {
    recorded = subst (λ rs. IsRecorded (new_node names number) rs (new_node names number))
        (sym (ap all_records (take_all (remaining (fate events number) 0) [] (omega arith)))) (new_recorded names number);
    alive = λ node runs e. absurd (cc);
    runs = λ node runs. absurd (cc);
    frames = tt;
    answers = tt;
    sound = none_whole;
    own_calls = new_own_calls names number;
    file = refl;
  };
  sent = tt;
  known = λ place id begins. absurd (none begins.0 place begins.1);
  tell = λ number. tt;
  is = record {
    place = λ index. index;
    last = λ index at id call other there. absurd (none call index there);
    begun = λ index notice at begins. absurd (none notice index at);
    told = λ at notice here tells. absurd (none notice at here);
  };
}
  where
    none : (notice : Notice) (i : ℕ) → slice_get [] i ≡ Some notice → ⊥
    none notice i e = cc

goes_beside : LeftLogIsRead → (names : FileOfNames) (events : List ProcessEvent) (processes : Processes) (cluster : NodeCluster) →
    GoesOn names events processes cluster → MayAllHappenTo names events processes →
    (last : NodeCluster) × GoesBeside events processes cluster last × CarryLetters (processes_run events processes) last.letters
goes_beside law names [] processes cluster goes may = (cluster, (goes.is, refl), goes.sent)
goes_beside law names (event ∷ events) processes cluster goes may =
    let sound : (number : ℕ) → HasWholeLog (processes.at number) = λ number. (goes.each number).sound in
    let step = one_step law names event events processes cluster goes may.0
    (own_safe (synced_safe law names (event ∷ events) processes may sound (number_of event)))
    (own_synced (synced_safe law names events (processes_after processes event) may.1
    (all_whole_after law names processes event may.0 sound) (number_of event))) in
    let rest = goes_beside law names events (processes_after processes event) step.0 step.2 may.1 in
    (rest.0, (goes.is, step.0, step.1, rest.1), rest.2)
  where
    number : ℕ
    number = number_of event

    own_safe : AreSafe (fate (event ∷ events) number) (processes.at number).synced →
        AreSafe (fate_by event (fate events number)) (processes.at number).synced
    own_safe safe =
        subst (λ b. AreSafe (cond b (fate_by event (fate events number)) (fate events number)) (processes.at number).synced)
        (eq-eqb number number refl) safe

    own_synced : AreSafe (fate events number) ((processes_after processes event).at number).synced →
        AreSafe (fate events number) (process_after (processes.at number) event).synced
    own_synced safe =
        subst (λ b. AreSafe (fate events number) (cond b (process_after (processes.at number) event) (processes.at number)).synced)
        (eq-eqb number number refl) safe

all_beside : LeftLogIsRead → (names : FileOfNames) (events : List ProcessEvent) → MayAllHappenTo names events new_processes →
    (last : NodeCluster) × GoesBeside events new_processes (new_cluster (λ number. names)) last
    × CarryLetters (processes_run events new_processes) last.letters
all_beside law names events may =
    goes_beside law names events new_processes (new_cluster (λ number. names)) (begins names events) may

pub have_clusters : LeftLogIsRead → ProcessesHaveClusters
have_clusters law names events may = let all = all_beside law names events may in (all.0, all.1)

-- a cluster that goes beside processes is reached by its events
reaches : (events : List ProcessEvent) (processes : Processes) (cluster last : NodeCluster) → GoesBeside events processes cluster last →
    (made : List ClusterEvent) × AreNodeEvents fragment made cluster × (cluster_run made cluster ≡ last)
reaches [] processes cluster last beside = ([], tt, sym beside.1)
reaches (event ∷ events) processes cluster last beside =
    go beside.2 beside.3 (λ c. reaches events (processes_after processes event) c last)
  where
    Beside : NodeCluster → Type 0
    Beside c = GoesBeside events (processes_after processes event) c last

    Reached : NodeCluster → Type 0
    Reached c = (made : List ClusterEvent) × AreNodeEvents fragment made c × (cluster_run made c ≡ last)

    go : IsNext cluster beside.1 → Beside beside.1 → ((c : NodeCluster) → Beside c → Reached c) → Reached cluster
    go (inl same) rest later = later cluster (subst Beside same rest)
    go (inr one) rest later =
        let then = later (cluster_after cluster one.0) (subst Beside one.4 rest) in
        (one.0 ∷ then.0, (one.1, one.2, one.3, then.1), then.2)

-- the last one is a cluster of the last processes
ends_beside : (events : List ProcessEvent) (processes : Processes) (cluster last : NodeCluster) →
    GoesBeside events processes cluster last → IsClusterOf (processes_run events processes) last
ends_beside [] processes cluster last beside = subst (IsClusterOf processes) (sym beside.1) beside.0
ends_beside (event ∷ events) processes cluster last beside =
    ends_beside events (processes_after processes event) beside.1 last beside.3

-- a cluster of the processes, which is reached, and whose letters their frames carry
record HasCluster (processes : Processes) : Type 0 where
  pub cluster : NodeCluster
  pub reached : IsReachedCluster fragment cluster
  pub is : IsClusterOf processes cluster
  pub letters : CarryLetters processes cluster.letters

has_cluster : LeftLogIsRead → (processes : Processes) → AreReached processes → HasCluster processes
has_cluster law processes reached =
    let names = reached.names in
    let first = new_cluster (λ number. names) in
    let beside = all_beside law names reached.events reached.may in
    let made = reaches reached.events new_processes first beside.0 beside.1 in record {
      cluster = beside.0;
      reached = record {
        files = λ number. names;
        one = λ number. refl;
        lawful = λ name. subst (λ n. IsLawful (n.first name)) reached.same (placed_again reached.file name reached.lawful);
        events = made.0;
        may = made.1;
        result = made.2;
      };
      is = subst (λ p. IsClusterOf p beside.0) reached.result (ends_beside reached.events new_processes first beside.0 beside.1);
      letters = subst (λ p. CarryLetters p beside.0.letters) reached.result beside.2;
    }

pub are_atomic : LeftLogIsRead → ProcessesAreAtomic
are_atomic law processes reached name =
    let has = has_cluster law processes reached in
    let history = atomic_clusters fragment has.cluster fragments_are_code has.reached name in
    (has.cluster, history.0, has.reached, has.is, history.1, history.2)

pub keep_values : LeftLogIsRead → ProcessesKeepValues
keep_values law processes reached =
    let has = has_cluster law processes reached in (
      has.cluster,
      has.reached,
      has.is,
      has.letters,
      λ name. valued_clusters fragment has.cluster fragments_are_code has.reached name,
    )
