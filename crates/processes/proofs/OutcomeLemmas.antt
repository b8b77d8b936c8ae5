-- What an event of processes does to the cluster that goes beside them: nothing, a start, or what a node does with letters.
use Rattle.std.proofs.Common.{Option, Some, ◌≡◌, inl, inr, ℕ, true, cond, eq-eqb, List, [], ◌∷◌, ◌++◌}
use Rattle.std.proofs.Common.{slice_get, refl, sym, subst, ap, ◌∙◌}
use Rattle.std.proofs.lemmas.Bool.{ne_eqb}
use Rattle.std.proofs.lemmas.Option.{same_Some}
use Rattle.std.proofs.lemmas.List.{append-nil}
use Rattle.std.specs.List.{AllByRecursion, filter}
use Rattle.encoder.specs.Fragment.{fragment}
use Rattle.deeds.specs.CallId.{CallIds}
use Rattle.deeds.specs.Deeds.{Notice}
use Rattle.deeds.specs.Ids.{IsLater}
use Rattle.deeds.specs.Kept.{FileOfNames, KeptNode}
use Rattle.deeds.specs.Named.{NamedLetter as Named, IsOneOf}
use Rattle.deeds.specs.Restarts.{IsRestarted}
use Rattle.deeds.proofs.IdLemmas.{later_then}
use Rattle.deeds.proofs.NameLemmas.{one_of_first}
use Rattle.node.specs.declared.node.Node.{Node}
use Rattle.open_calls.proofs.ListLemmas.{all_append, all_weaker}
use Rattle.refinement.specs.Clusters.{ClusterEvent, NodeCluster, cluster_after}
use Rattle.processes.specs.Events.{ProcessEvent, is_begun, is_told, number_of}
use Rattle.processes.specs.Events.{process_after, processes_after, seen_in, sent_by}
use Rattle.processes.specs.Laws.{IsNext}
use Rattle.processes.specs.Processes.{Process, Processes, SentFrame}
use Rattle.processes.proofs.BesideLemmas.{GoesOn, each_after, others_kept, own_kept}
use Rattle.processes.proofs.GivenIdLemmas.{BeginApart, BeginsAt, HaveGivenIds, calls_given, deeds_begun, ids_later}
use Rattle.processes.proofs.KnownIdLemmas.{AreNew, IsKnown, RunsOn, both_known, ids_at, known_after, known_new, running_at, told_known}
use Rattle.processes.proofs.SeenLemmas.{acted_seen, quiet_seen}
use Rattle.processes.proofs.ToldOnlyLemmas.{all_tell_after}
use Rattle.processes.proofs.FateLemmas.{fate}
use Rattle.processes.proofs.StandingLemmas.{HandlesBeside}
use Rattle.processes.proofs.StandingLemmas.{IsAmong, Stands, among_first}
use Rattle.processes.specs.Letters.{IsCarried}
use Rattle.processes.proofs.WantLemmas.{carried_among}

-- Notices

pub none_among : (notice : Notice) → IsAmong [] notice → ⊥
none_among notice is = go is.0 is.1
  where
    go : (i : ℕ) → slice_get [] i ≡ Some notice → ⊥
    go i e = cc

-- One event

module _ (names : FileOfNames) (event : ProcessEvent) (events : List ProcessEvent) (processes : Processes) (cluster : NodeCluster)
    (goes : GoesOn names (event ∷ events) processes cluster) where
  abbrev number : ℕ
  number = number_of event

  abbrev process : Process
  process = processes.at (number_of event)

  abbrev Steps : Type 0
  Steps = (next : NodeCluster) × IsNext cluster next × GoesOn names events (processes_after processes event) next

  abbrev running_then : ℕ → Option Node
  running_then = running_at (processes_after processes event)

  others_run : (other : ℕ) → (other ≡ number → ⊥) → running_then other ≡ running_at processes other
  others_run other differ =
      ap (λ b. (cond b (process_after process event) (processes.at other)).running) (ne_eqb other number differ)

  own_runs : running_then number ≡ (process_after process event).running
  own_runs = ap (λ b. (cond b (process_after process event) process).running) (eq-eqb number number refl)

  -- an id that was known is known afterwards
  still_known : (next : NodeCluster) → ((other : ℕ) → (other ≡ number → ⊥) → next.nodes other ≡ cluster.nodes other) →
      ((given : CallIds) → IsLater given (cluster.nodes number).ids → IsLater given (next.nodes number).ids) →
      RunsOn (cluster.nodes number).ids process.running (process_after process event).running → (id : ℕ) →
      IsKnown (running_at processes) (ids_at cluster) id → IsKnown running_then (ids_at next) id
  still_known next others later runs id is =
      known_after (running_at processes) running_then (ids_at cluster) (ids_at next) number others_run
      (λ other differ. ap (λ (k : KeptNode). k.ids) (others other differ)) later
      (subst (λ r. RunsOn (cluster.nodes number).ids process.running r) (sym own_runs) runs) id is

  -- nothing happens to the cluster
  pub quiet : Stands names number (fate events number) (process_after process event) (cluster.nodes number) cluster.letters
      cluster.notices →
      AllByRecursion (λ (it : SentFrame). IsCarried cluster.letters it.frame) (sent_by event) →
      ((notice : Notice) → is_told notice ≡ true → IsAmong (seen_in process event) notice → IsAmong cluster.notices notice) →
      AreNew cluster.notices (seen_in process event) →
      RunsOn (cluster.nodes number).ids process.running (process_after process event).running → Steps
  quiet own sent told fresh runs = (
    cluster,
    inl refl,
    record {
      each = each_after names event events processes cluster cluster goes (λ n differ. refl) (λ letter one. one) (λ notice one. one) own;
      sent = all_append (λ (it : SentFrame). IsCarried cluster.letters it.frame) processes.sent (sent_by event) goes.sent sent;
      tell = all_tell_after processes event goes.tell;
      known = λ place id begins.
          still_known cluster (λ other differ. refl) (λ given later. later) runs id (goes.known place id begins);
      is = quiet_seen processes cluster event told fresh goes.is;
    },
  )

  -- the node of the cluster starts again
  pub restarts : (after : KeptNode) → IsRestarted (cluster.nodes number) after →
      Stands names number (fate events number) (process_after process event) after cluster.letters cluster.notices →
      sent_by event ≡ [] → seen_in process event ≡ [] →
      RunsOn (cluster.nodes number).ids process.running (process_after process event).running → Steps
  restarts after again own sent seen runs =
      let made = ClusterEvent.Restarts number after in
      let next = cluster_after cluster made in (
        next,
        inr (made, tt, tt, again, refl),
        record {
          each = each_after names event events processes cluster next goes (others_kept cluster.nodes number after)
              (λ letter one. one) (λ notice one. one)
              (subst (λ k. Stands names number (fate events number) (process_after process event) k cluster.letters cluster.notices)
              (sym (own_kept cluster.nodes number after)) own);
          sent = subst (λ ss. AllByRecursion (λ (it : SentFrame). IsCarried cluster.letters it.frame) (processes.sent ++ ss)) (sym sent)
              (subst (λ ss. AllByRecursion (λ (it : SentFrame). IsCarried cluster.letters it.frame) ss)
              (sym (append-nil processes.sent)) goes.sent);
          tell = all_tell_after processes event goes.tell;
          known = λ place id begins.
              still_known next (others_kept cluster.nodes number after)
              (λ given later. subst (λ (k : KeptNode). IsLater given k.ids) (sym (own_kept cluster.nodes number after))
              (later_then given (cluster.nodes number).ids after.ids later
              (record { node = again.number; within = again.within; order = inl again.epoch })))
              runs id (goes.known place id begins);
          is = let same = quiet_seen processes cluster event
              (λ notice told one. absurd (none_among notice (subst (λ ns. IsAmong ns notice) seen one)))
              (λ one other id begins also. absurd (none_among also.0 (subst (λ ns. IsAmong ns also.0) seen (other, also.1)))) goes.is in
              record { place = same.place; begun = same.begun; last = same.last; told = same.told };
        },
      )

  -- the node of the cluster handles letters
  pub acts : (got : List Named) (seen : List Notice) →
      HandlesBeside names number (fate events number) (process_after process event) (cluster.nodes number) got cluster.letters
      cluster.notices seen → AllByRecursion (IsOneOf cluster.letters) got → sent_by event ≡ [] →
      seen_in process event ≡ filter is_begun seen → (node after : Node) → process.running ≡ Some node →
      (process_after process event).running ≡ Some after → node.keeper.ids.node ≡ number →
      HaveGivenIds node.keeper.ids seen after.keeper.ids → IsLater node.keeper.ids after.keeper.ids → Steps
  acts got seen beside came sent shows node after runs runs_then own given later =
      let made = ClusterEvent.Handles number got beside.after beside.sent beside.told in
      let next = cluster_after cluster made in
      let cluster_given = ids_later (cluster.nodes number).ids beside.after.ids beside.handled.deeds beside.handled.ids in
      let fresh = known_new (running_at processes) (ids_at cluster) number node after.keeper.ids cluster.notices (filter is_begun seen)
      runs own goes.known (calls_given node.keeper.ids after.keeper.ids seen given) in
      let kept_then : next.nodes number ≡ beside.after = own_kept cluster.nodes number beside.after in
      let known_now : (place id : ℕ) → BeginsAt beside.told place id → IsKnown running_then (ids_at next) id =
      λ place id begins. told_known running_then (ids_at next) number node.keeper.ids after seen beside.told beside.unseen
      (cluster.nodes number).ids beside.after.ids beside.first_seen given
      (subst (λ ns. HaveGivenIds (cluster.nodes number).ids ns beside.after.ids) (sym beside.handled.seen)
      (deeds_begun fragment beside.handled.deeds (cluster.nodes number).objects (cluster.nodes number).ids beside.after.ids
      beside.handled.ids)) own (ap (λ (k : KeptNode). k.ids) kept_then) (own_runs ∙ runs_then) place id begins in (
        next,
        inr (made, beside.handled, came, tt, refl),
        record {
          each = each_after names event events processes cluster next goes (others_kept cluster.nodes number beside.after)
              (λ letter one. one_of_first cluster.letters beside.sent letter one)
              (λ notice one. among_first cluster.notices beside.told notice one)
              (subst (λ k. Stands names number (fate events number) (process_after process event) k (cluster.letters ++ beside.sent)
              (cluster.notices ++ beside.told)) (sym (own_kept cluster.nodes number beside.after)) beside.stands);
          sent = subst (λ ss. AllByRecursion (λ (it : SentFrame). IsCarried next.letters it.frame) (processes.sent ++ ss)) (sym sent)
              (subst (λ ss. AllByRecursion (λ (it : SentFrame). IsCarried next.letters it.frame) ss) (sym (append-nil processes.sent))
              (all_weaker (λ (it : SentFrame). IsCarried cluster.letters it.frame) (λ (it : SentFrame). IsCarried next.letters it.frame)
              (λ it is. carried_among cluster.letters next.letters
              (λ letter one. one_of_first cluster.letters beside.sent letter one) it.frame is) processes.sent goes.sent));
          tell = all_tell_after processes event goes.tell;
          known = λ place id begins. both_known (IsKnown running_then (ids_at next)) cluster.notices beside.told
              (λ old id there. still_known next (others_kept cluster.nodes number beside.after)
              (λ given_then before. subst (λ (k : KeptNode). IsLater given_then k.ids) (sym kept_then)
              (later_then given_then (cluster.nodes number).ids beside.after.ids before cluster_given))
              (λ given_then before all last e. subst (λ (n : Node). IsLater given_then n.keeper.ids)
              (same_Some after last (sym runs_then ∙ e))
              (later_then given_then node.keeper.ids after.keeper.ids (all node runs) later)) id (goes.known old id there))
              known_now place id begins;
          is = acted_seen processes cluster next event beside.told beside.unseen refl
              (shows ∙ ap (filter is_begun) beside.first_seen)
              (subst (λ ns. AreNew cluster.notices (filter is_begun ns)) beside.first_seen fresh)
              (subst (λ ns. BeginApart (filter is_begun ns)) beside.first_seen
              (calls_given node.keeper.ids after.keeper.ids seen given).apart) goes.is;
        },
      )
