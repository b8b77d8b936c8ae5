-- All nodes of a cluster, for the object of one name.
use Rattle.std.proofs.Common.{◌≡◌, inl, ℕ, suc, Bool, true, false, cond, eqb, eq-eqb, eqb-true, List, [], ◌∷◌, ◌++◌}
use Rattle.std.proofs.Common.{refl, sym, subst, ap, ◌∙◌, arith}
use Rattle.std.specs.List.{AllByRecursion}
use Rattle.record.specs.declared.call.Entry.{Entry}
use Rattle.record.specs.Fragments.{Code}
use Rattle.deeds.specs.CallId.{CallIds, HasRanges}
use Rattle.network.specs.Worlds.{ClusterFile}
use Rattle.local_object.specs.Local.{LocalObject}
use Rattle.local_object.specs.Restarts.{IsKeptHere}
use Rattle.refinement.specs.Systems.{System, SystemEvent, opened_system, system_after}
use Rattle.refinement.proofs.SystemLawLemmas.{atomic_systems}
use Rattle.refinement.proofs.SystemValueLemmas.{systems_kept}
use Rattle.deeds.specs.Named.{IsOneOf, NamedLetter}
use Rattle.deeds.specs.Kept.{FileOfNames, KeptNode}
use Rattle.deeds.specs.Deeds.{Deed, Notice, after_deeds}
use Rattle.deeds.specs.Handled.{IsHandled}
use Rattle.deeds.specs.Ids.{HaveNextIds, IsLater}
use Rattle.deeds.specs.May.{IsAllowed}
use Rattle.deeds.proofs.IdLemmas.{ids_node}
use Rattle.open_calls.proofs.ListLemmas.{all_weaker, all_at}
use Rattle.refinement.specs.Clusters.{NodeCluster, ClusterEvent, cluster_after, cluster_run, new_cluster, with_kept_node}
use Rattle.refinement.specs.Premises.{AreNodeEvents, LettersAreAsSent, IsKeptByItsLog, IsNodeEvent, IsReachedCluster}
use Rattle.deeds.specs.Restarts.{IsRestarted}
use Rattle.refinement.specs.ClusterLaws.{ClustersAreAtomic, ClustersHaveSystems, ClustersKeepValues, IsSystemOf, SeenHistoriesAreAtomic}
use Rattle.refinement.proofs.HistoryLemmas.{history_is, history_later}
use Rattle.refinement.proofs.SystemRunLemmas.{reached_next}
use Rattle.deeds.proofs.UsedIdLemmas.{IsUsed, used_later, with_ids}
use Rattle.refinement.proofs.LeadLemmas.{Follows, other_object, own_object}
use Rattle.refinement.proofs.DeedLemmas.{deeds_lead}

-- the cluster file, for the object of a name
abbrev file_of : FileOfNames → (name : List ℕ) → ClusterFile
file_of file name = record { delta = file.delta; mover = file.mover; first = file.first name }

-- what gives ids at each node
abbrev ids_of : (nodes : ℕ → KeptNode) → (number : ℕ) → CallIds
ids_of nodes number = (nodes number).ids

-- all nodes, with these cluster files, and what they are for the object of the name
record Stands (fragment : Code) (files : ℕ → FileOfNames) (name : List ℕ) (cluster : NodeCluster) : Type 0 where
  pub system : System
  pub follows : Follows fragment name system (ids_of cluster.nodes) cluster.letters cluster.notices
  pub objects : (number : ℕ) → system.objects number ≡ (cluster.nodes number).objects name
  pub numbers : (number : ℕ) → (cluster.nodes number).ids.node ≡ number
  pub within : (number : ℕ) → HasRanges (cluster.nodes number).ids
  pub kept : (number : ℕ) → (cluster.nodes number).file ≡ files number
  pub movers : (number : ℕ) → (system.files number).mover ≡ (files number).mover

ids_within : (before after : CallIds) (deeds : List Deed) → HaveNextIds before deeds after → HasRanges after
ids_within before after [] ids = ids.within
ids_within before after (deed ∷ deeds) ids = ids_within ids.0 after deeds ids.2

-- what gives ids, with the same at one of the nodes
same_ids : (ids : ℕ → CallIds) (number : ℕ) → ids ≡ with_ids ids number (ids number)
same_ids ids number = λ i m. at m i
  where
    go : (m : ℕ) (b : Bool) → eqb m number ≡ b → ids m ≡ cond b (ids number) (ids m)
    go m true e = ap ids (eqb-true m number e)
    go m false e = refl

    at : (m : ℕ) → ids m ≡ with_ids ids number (ids number) m
    at m = go m (eqb m number) refl

ids_after : (nodes : ℕ → KeptNode) (number : ℕ) (after : KeptNode) →
    with_ids (ids_of nodes) number after.ids ≡ ids_of (with_kept_node nodes number after)
ids_after nodes number after = λ i m. go m (eqb m number) i
  where
    go : (m : ℕ) (b : Bool) → cond b after.ids (nodes m).ids ≡ (cond b after (nodes m)).ids
    go m true = refl
    go m false = refl

-- a fact of each node, where one has changed
each_node : (P : ℕ → KeptNode → Type 0) (nodes : ℕ → KeptNode) (number : ℕ) (after : KeptNode) → P number after →
    ((m : ℕ) → (m ≡ number → ⊥) → P m (nodes m)) → (m : ℕ) → P m (with_kept_node nodes number after m)
each_node P nodes number after own others m = go (eqb m number) refl
  where
    go : (b : Bool) → eqb m number ≡ b → P m (cond b after (nodes m))
    go true e = subst (λ n. P n after) (sym (eqb-true m number e)) own
    go false e = others m (λ same. absurd (let wrong : false ≡ true = sym e ∙ eq-eqb m number same in cc))

module _ (fragment : Code) (files : ℕ → FileOfNames) (name : List ℕ) (cluster : NodeCluster) (is : Stands fragment files name cluster)
    (number : ℕ) where
  abbrev old : KeptNode
  old = cluster.nodes number

  handled : (got : List NamedLetter) (after : KeptNode) (sent : List NamedLetter) (notices : List Notice) →
      IsHandled fragment old got after sent notices → AllByRecursion (IsOneOf cluster.letters) got →
      Stands fragment files name (cluster_after cluster (ClusterEvent.Handles number got after sent notices))
  handled got after sent notices did came =
      let mine = with_ids (ids_of cluster.nodes) number after.ids in
      let done = after_deeds fragment old.objects did.deeds in
      let led = deeds_lead fragment name number old.file.mover (ids_of cluster.nodes) did.deeds is.system old.objects old.ids
      after.ids cluster.letters cluster.notices got
      (subst (λ i. Follows fragment name is.system i cluster.letters cluster.notices) (same_ids (ids_of cluster.nodes) number) is.follows)
      (is.numbers number) (is.within number) (is.objects number)
      (ap (λ (f : FileOfNames). f.mover) (is.kept number) ∙ sym (is.movers number)) did.may did.fed
      (λ letter one. all_at (IsOneOf cluster.letters) got one.0 letter came one.1)
      (subst (λ n. AllByRecursion (IsAllowed n old.file.mover) did.deeds) (is.numbers number) did.allowed) did.ids in record {
        system = led.next;
        follows = subst (λ i. Follows fragment name led.next i (cluster.letters ++ sent) (cluster.notices ++ notices))
            (ids_after cluster.nodes number after)
            (subst (λ ls. Follows fragment name led.next mine (cluster.letters ++ ls) (cluster.notices ++ notices))
            (sym did.letters)
            (subst (λ ns. Follows fragment name led.next mine (cluster.letters ++ done.sent) (cluster.notices ++ ns))
            (sym did.seen) led.follows));
        objects = each_node (λ m node. led.next.objects m ≡ node.objects name) cluster.nodes number after
            (led.own ∙ sym (did.objects name)) (λ m apart. led.others m apart ∙ is.objects m);
        numbers = each_node (λ m node. node.ids.node ≡ m) cluster.nodes number after
            (ids_node old.ids after.ids did.deeds did.ids ∙ is.numbers number) (λ m apart. is.numbers m);
        within = each_node (λ m node. HasRanges node.ids) cluster.nodes number after
            (ids_within old.ids after.ids did.deeds did.ids) (λ m apart. is.within m);
        kept = each_node (λ m node. node.file ≡ files m) cluster.nodes number after (did.file ∙ is.kept number) (λ m apart. is.kept m);
        movers = λ m. ap (λ (f : ℕ → ClusterFile). (f m).mover) led.files ∙ is.movers m;
      }

  restarted : (after : KeptNode) → IsRestarted old after →
      Stands fragment files name (cluster_after cluster (ClusterEvent.Restarts number after))
  restarted after again =
      let event = SystemEvent.Restarts number (after.objects name) in
      let log = again.objects name in
      let kept : IsKeptHere (number ≡ (is.system.files number).mover) (old.objects name) (after.objects name) = record {
        node = log.node;
        delta = log.delta;
        start = log.start;
        layouts = log.layouts;
        first = log.first;
        banks = log.banks;
        reports = log.reports;
        calls = log.calls;
        mover = λ moves. log.mover (is.numbers number ∙ moves ∙ is.movers number
            ∙ sym (ap (λ (f : FileOfNames). f.mover) (is.kept number)));
      } in
      let later : IsLater old.ids after.ids = record { node = again.number; within = again.within; order = inl again.epoch } in
      let used : AllByRecursion (λ entry. IsUsed (with_ids (ids_of cluster.nodes) number after.ids) entry.call) is.system.history =
      all_weaker (λ (entry : Entry). IsUsed (with_ids (ids_of cluster.nodes) number old.ids) entry.call)
      (λ (entry : Entry). IsUsed (with_ids (ids_of cluster.nodes) number after.ids) entry.call)
      (λ entry u. used_later (ids_of cluster.nodes) number old.ids after.ids later entry.call u) is.system.history
      (subst (λ i. AllByRecursion (λ (entry : Entry). IsUsed i entry.call) is.system.history)
      (same_ids (ids_of cluster.nodes) number) is.follows.used) in record {
        system = system_after fragment is.system event;
        follows = record {
          reached = reached_next fragment is.system event is.follows.reached
              (subst (λ (l : LocalObject). IsKeptHere (number ≡ (is.system.files number).mover) l (after.objects name))
              (sym (is.objects number)) kept);
          posted = is.follows.posted;
          used = subst (λ i. AllByRecursion (λ (entry : Entry). IsUsed i entry.call) is.system.history)
              (ids_after cluster.nodes number after) used;
          history = history_later name cluster.notices is.system.history is.system.now (suc is.system.now) (omega arith) is.follows.history;
        };
        objects = each_node (λ m node. (system_after fragment is.system event).objects m ≡ node.objects name) cluster.nodes number after
            (own_object is.system.objects number (after.objects name))
            (λ m apart. other_object is.system.objects number (after.objects name) m apart ∙ is.objects m);
        numbers = each_node (λ m node. node.ids.node ≡ m) cluster.nodes number after (again.number ∙ is.numbers number)
            (λ m apart. is.numbers m);
        within = each_node (λ m node. HasRanges node.ids) cluster.nodes number after again.within (λ m apart. is.within m);
        kept = each_node (λ m node. node.file ≡ files m) cluster.nodes number after (again.file ∙ is.kept number) (λ m apart. is.kept m);
        movers = is.movers;
      }

module _ (fragment : Code) (files : ℕ → FileOfNames) (name : List ℕ) where
  one_stands : (cluster : NodeCluster) (event : ClusterEvent) → Stands fragment files name cluster → IsNodeEvent fragment cluster event →
      LettersAreAsSent cluster event → IsKeptByItsLog cluster event → Stands fragment files name (cluster_after cluster event)
  one_stands cluster (ClusterEvent.Handles number got after sent notices) is did came kept =
      handled fragment files name cluster is number got after sent notices did came
  one_stands cluster (ClusterEvent.Restarts number after) is did came kept =
      restarted fragment files name cluster is number after kept

  all_stand : (events : List ClusterEvent) (cluster : NodeCluster) → Stands fragment files name cluster →
      AreNodeEvents fragment events cluster → Stands fragment files name (cluster_run events cluster)
  all_stand [] cluster is may = is
  all_stand (event ∷ events) cluster is may =
      all_stand events (cluster_after cluster event) (one_stands cluster event is may.0 may.1 may.2) may.3

stand_first : (fragment : Code) (cluster : NodeCluster) (reached : IsReachedCluster fragment cluster) (name : List ℕ) →
    Stands fragment reached.files name (new_cluster reached.files)
stand_first fragment cluster reached name =
    let files = λ (m : ℕ). file_of (reached.files m) name in record {
      system = opened_system files;
      follows = record {
        reached = record {
          files = files;
          one = λ m. ap (λ (f : FileOfNames). file_of f name) (reached.one m);
          lawful = reached.lawful name;
          events = [];
          may = tt;
          result = refl;
        };
        posted = λ letter is. absurd (let e = is.1 in cc);
        used = tt;
        history = record {
          timed = [];
          those = refl;
          rising = omega arith;
          result = refl;
          told = λ place ended at. absurd (cc);
          seen = record {
            seen = record {
              begins = λ index. index;
              begun = λ index entry at. absurd (cc);
              last = λ index time entry other notice at. absurd (cc);
              distinct = λ one other first second a b same. absurd (cc);
              told = λ time ended at. absurd (cc);
            };
            past = λ index entry step at e. absurd (cc);
          };
        };
      };
      objects = λ m. refl;
      numbers = λ m. refl;
      within = λ m. (omega arith, omega arith);
      kept = λ m. refl;
      movers = λ m. refl;
    }

stand_last : (fragment : Code) (cluster : NodeCluster) (reached : IsReachedCluster fragment cluster) (name : List ℕ) →
    Stands fragment reached.files name cluster
stand_last fragment cluster reached name =
    subst (Stands fragment reached.files name) reached.result
    (all_stand fragment reached.files name reached.events (new_cluster reached.files)
    (stand_first fragment cluster reached name) reached.may)

pub have_systems : ClustersHaveSystems
have_systems fragment cluster reached name =
    let is = stand_last fragment cluster reached name in
    let of : IsSystemOf cluster name is.system = record {
      objects = is.objects;
      letters = is.follows.posted;
      history = history_is name cluster.notices is.system.history is.system.now is.follows.history;
    } in
    (is.system, is.follows.reached, of)

pub atomic_clusters : ClustersAreAtomic
atomic_clusters fragment cluster code reached name =
    let has = have_systems fragment cluster reached name in
    (has.0.history, has.2.history, atomic_systems fragment has.0 code has.1)

pub seen_atomic : SeenHistoriesAreAtomic
seen_atomic fragment cluster code reached name =
    let is = stand_last fragment cluster reached name in
    (is.system.history, is.follows.history.seen.seen, atomic_systems fragment is.system code is.follows.reached)

pub valued_clusters : ClustersKeepValues
valued_clusters fragment cluster code reached name =
    let has = have_systems fragment cluster reached name in
    (has.0, has.2, systems_kept fragment has.0 code has.1)
