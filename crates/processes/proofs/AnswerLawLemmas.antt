-- The law of the answers that clients get.
use Rattle.std.proofs.Common.{◌≡◌, ◌≤◌, ℕ, false, List, [], Some, slice_get, refl, subst}
use Rattle.encoder.specs.Fragment.{fragment}
use Rattle.record.specs.declared.call.Entry.{Entry}
use Rattle.atomicity.specs.Atomic.{IsAtomic}
use Rattle.deeds.specs.Deeds.{Notice}
use Rattle.register.proofs.FragmentCodeLemmas.{fragments_are_code}
use Rattle.node_store.specs.Laws.{LeftLogIsRead}
use Rattle.refinement.specs.Clusters.{NodeCluster}
use Rattle.refinement.specs.SeenHistories.{IsHistoryOfSeen}
use Rattle.refinement.proofs.ClusterLemmas.{seen_atomic}
use Rattle.processes.specs.Answers.{ClientsGetTheirAnswers, SeenHistory, new_talk, talk_in}
use Rattle.processes.specs.Events.{call_begun}
use Rattle.processes.specs.Laws.{IsClusterOf}
use Rattle.processes.specs.Processes.{Processes, new_processes}
use Rattle.processes.specs.Runs.{AreOfPrograms, AreReached}
use Rattle.processes.proofs.AnswerHistoryLemmas.{answers_all}
use Rattle.processes.proofs.ProcessLawLemmas.{are_atomic}
use Rattle.processes.proofs.SeenHistoryLemmas.{seen_last, seen_through}
use Rattle.processes.proofs.TalkRunLemmas.{TalksAt, all_events}

module _ (law : LeftLogIsRead) (processes : Processes) (reached : AreReached processes) where
  abbrev cluster : NodeCluster
  cluster = (are_atomic law processes reached []).0

  abbrev beside : IsClusterOf processes cluster
  beside = (are_atomic law processes reached []).3

  abbrev atomic_of : (name : List ℕ) → (calls : List Entry) × IsHistoryOfSeen name cluster.notices calls × IsAtomic calls
  atomic_of name = seen_atomic fragment cluster fragments_are_code (are_atomic law processes reached []).2 name

  abbrev histories : (name : List ℕ) → SeenHistory processes.seen name
  histories name = record {
    calls = (atomic_of name).0;
    of = seen_through processes cluster beside name (atomic_of name).0 (atomic_of name).1;
    atomic = (atomic_of name).2;
  }

  last : (name : List ℕ) (index time : ℕ) (entry : Entry) (notice : Notice) → slice_get (histories name).calls index ≡ Some entry →
      slice_get processes.seen time ≡ Some notice → call_begun notice ≡ Some entry.call → time ≤ (histories name).of.begins index
  last name index time entry notice at seen same =
      seen_last processes cluster beside name (atomic_of name).0 (atomic_of name).1 index time entry notice at seen same

  -- before the first event
  begun : (number : ℕ) → TalksAt number new_processes (λ client. new_talk)
  begun number = record {
    file = reached.file;
    ids = record { node = number; epoch = 0; given = 0 };
    own = refl;
    runs = λ node e. absurd (cc);
    each = λ client. record {
      left = [];
      named = λ own e. absurd (cc);
      replied = λ small. ([], refl, refl);
      has = λ node e. absurd (cc);
    };
  }

  talks : (number : ℕ) → AreOfPrograms number reached.events new_processes →
      ((client : ℕ) → (talk_in processes reached number client).reused ≡ false) →
      TalksAt number processes (λ client. talk_in processes reached number client)
  talks number of unused =
      subst (λ (p : Processes). TalksAt number p (λ client. talk_in processes reached number client)) reached.result
      (all_events reached.names number reached.events new_processes (λ client. new_talk) reached.may of (λ other node e. absurd (cc))
      (λ other. tt) (λ all. begun number) unused)

pub get_answers : LeftLogIsRead → ClientsGetTheirAnswers
get_answers law processes reached = (
  histories law processes reached,
  λ number of unused client small place written e. (let is = talks law processes reached number of unused in
      let known = (is.each client).replied small in
      answers_all processes.seen (histories law processes reached) (last law processes reached) number client is.file is.ids
      (talk_in processes reached number client).file (is.each client).named
      (talk_in processes reached number client).answers (talk_in processes reached number client).commands known.0 known.1 place written e),
)
