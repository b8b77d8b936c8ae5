-- The processes of a cluster, and the cluster that goes beside them.
use Rattle.std.proofs.Common.{◌≡◌, ℕ, Bool, true, false, cond, List, ◌∷◌}
use Rattle.std.proofs.Common.{eqb, eqb-true, eq-eqb, refl, sym, subst, ap, ◌∙◌}
use Rattle.std.specs.List.{AllByRecursion}
use Rattle.deeds.specs.Deeds.{Notice}
use Rattle.deeds.specs.Kept.{FileOfNames, KeptNode}
use Rattle.deeds.specs.Named.{NamedLetter as Named, IsOneOf}
use Rattle.refinement.specs.Clusters.{NodeCluster, with_kept_node}
use Rattle.processes.specs.Events.{ProcessEvent, number_of, process_after, processes_after}
use Rattle.processes.specs.Laws.{IsClusterOf}
use Rattle.processes.specs.Processes.{Process, Processes, SentFrame}
use Rattle.processes.proofs.FateLemmas.{fate, fate_by}
use Rattle.processes.proofs.KnownIdLemmas.{AreKnown}
use Rattle.processes.proofs.StandingLemmas.{IsAmong, Stands, stands_wider}
use Rattle.processes.proofs.ToldOnlyLemmas.{AllTellOnly}
use Rattle.processes.specs.Letters.{IsCarried}

-- the process of each node stands beside the cluster's node, all frames that were written have letters of the cluster,
-- the ids of its calls are known, answers that wait tell nothing else, and the cluster is one of these processes
pub record GoesOn (names : FileOfNames) (events : List ProcessEvent) (processes : Processes) (cluster : NodeCluster) : Type 0 where
  pub each : (number : ℕ) →
      Stands names number (fate events number) (processes.at number) (cluster.nodes number) cluster.letters cluster.notices
  pub sent : AllByRecursion (λ (it : SentFrame). IsCarried cluster.letters it.frame) processes.sent
  pub known : AreKnown processes cluster
  pub tell : AllTellOnly processes
  pub is : IsClusterOf processes cluster

-- the process of the event, before it
pub own_before : (names : FileOfNames) (event : ProcessEvent) (events : List ProcessEvent) (processes : Processes) (cluster : NodeCluster)
    → GoesOn names (event ∷ events) processes cluster →
    Stands names (number_of event) (fate_by event (fate events (number_of event))) (processes.at (number_of event))
    (cluster.nodes (number_of event)) cluster.letters cluster.notices
own_before names event events processes cluster goes =
    let n = number_of event in
    subst (λ b. Stands names n (cond b (fate_by event (fate events n)) (fate events n)) (processes.at n) (cluster.nodes n)
    cluster.letters cluster.notices) (eq-eqb n n refl) (goes.each n)

-- all processes, where one has changed
pub each_after : (names : FileOfNames) (event : ProcessEvent) (events : List ProcessEvent) (processes : Processes)
    (cluster next : NodeCluster) → GoesOn names (event ∷ events) processes cluster →
    ((number : ℕ) → (number ≡ number_of event → ⊥) → next.nodes number ≡ cluster.nodes number) →
    ((letter : Named) → IsOneOf cluster.letters letter → IsOneOf next.letters letter) →
    ((notice : Notice) → IsAmong cluster.notices notice → IsAmong next.notices notice) →
    Stands names (number_of event) (fate events (number_of event)) (process_after (processes.at (number_of event)) event)
    (next.nodes (number_of event)) next.letters next.notices → (number : ℕ) →
    Stands names number (fate events number) ((processes_after processes event).at number) (next.nodes number) next.letters next.notices
each_after names event events processes cluster next goes others among noticed own number =
    go (eqb number (number_of event)) refl (goes.each number)
  where
    then : Process
    then = process_after (processes.at (number_of event)) event

    go : (b : Bool) → eqb number (number_of event) ≡ b →
        Stands names number (cond b (fate_by event (fate events number)) (fate events number)) (processes.at number)
        (cluster.nodes number) cluster.letters cluster.notices →
        Stands names number (fate events number) (cond b then (processes.at number)) (next.nodes number) next.letters next.notices
    go true e before =
        subst (λ n. Stands names n (fate events n) then (next.nodes n) next.letters next.notices)
        (sym (eqb-true number (number_of event) e)) own
    go false e before =
        subst (λ k. Stands names number (fate events number) (processes.at number) k next.letters next.notices)
        (sym (others number (λ same. absurd (let wrong : false ≡ true = sym e ∙ eq-eqb number (number_of event) same in cc))))
        (stands_wider names number (fate events number) (processes.at number) (cluster.nodes number) cluster.letters next.letters
        cluster.notices next.notices among noticed before)

-- the node of a number, and the others
pub own_kept : (nodes : ℕ → KeptNode) (number : ℕ) (after : KeptNode) → with_kept_node nodes number after number ≡ after
own_kept nodes number after = ap (λ b. cond b after (nodes number)) (eq-eqb number number refl)

pub others_kept : (nodes : ℕ → KeptNode) (number : ℕ) (after : KeptNode) (other : ℕ) → (other ≡ number → ⊥) →
    with_kept_node nodes number after other ≡ nodes other
others_kept nodes number after other differ = go (eqb other number) refl
  where
    go : (b : Bool) → eqb other number ≡ b → cond b after (nodes other) ≡ nodes other
    go true e = absurd (differ (eqb-true other number e))
    go false e = refl
