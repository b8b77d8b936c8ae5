-- An atomic history of what clients of the cluster saw is one of what those of the processes saw.
use Rattle.std.proofs.Common.{◌≡◌, ◌<◌, ◌≤◌, ℕ, true, List, Some, slice_get, refl, sym, ap, ◌∙◌, arith}
use Rattle.std.proofs.lemmas.Option.{same_Some}
use Rattle.encoder.specs.Fragment.{fragment}
use Rattle.record.specs.declared.call.Entry.{Entry}
use Rattle.deeds.specs.Deeds.{Notice}
use Rattle.local_object.specs.declared.progress.Ended.{Ended}
use Rattle.register.proofs.FragmentCodeLemmas.{fragments_are_code}
use Rattle.node_store.specs.Laws.{LeftLogIsRead}
use Rattle.refinement.specs.Clusters.{NodeCluster}
use Rattle.refinement.specs.SeenHistories.{IsBegunAs, IsHistoryOfSeen, IsToldAt}
use Rattle.refinement.proofs.ClusterLemmas.{seen_atomic}
use Rattle.processes.specs.Events.{call_begun, is_begun}
use Rattle.processes.specs.Laws.{ClientsSeeAtomicHistories, IsClusterOf}
use Rattle.processes.specs.Processes.{Processes}
use Rattle.processes.proofs.ProcessLawLemmas.{are_atomic}
use Rattle.processes.proofs.SeenLemmas.{id_begun}

-- a notice with which a call began says so, and has its id
pub begins_with : (name : List ℕ) (notice : Notice) (entry : Entry) → IsBegunAs name notice entry → call_begun notice ≡ Some entry.call
begins_with name (Notice.Reads other id) entry begun = ap Some (sym begun.1)
begins_with name (Notice.Writes other id value) entry begun = ap Some (sym begun.1)
begins_with name (Notice.Moves other id layout) entry begun = ap Some (sym begun.1)
begins_with name (Notice.Tells other ended) entry begun = absurd begun

says_begun : (name : List ℕ) (notice : Notice) (entry : Entry) → IsBegunAs name notice entry → is_begun notice ≡ true
says_begun name notice entry begun = id_begun notice entry.call (begins_with name notice entry begun)

module _ (processes : Processes) (cluster : NodeCluster) (is : IsClusterOf processes cluster) (name : List ℕ) (history : List Entry)
    (of : IsHistoryOfSeen name cluster.notices history) where
  abbrev begins : ℕ → ℕ
  begins index = is.place (of.begins index)

  begun_there : (index : ℕ) (entry : Entry) → slice_get history index ≡ Some entry →
      (notice : Notice) × (slice_get processes.seen (begins index) ≡ Some notice) × IsBegunAs name notice entry
  begun_there index entry at =
      let there = of.begun index entry at in
      (there.0, is.begun (of.begins index) there.0 there.1 (says_begun name there.0 entry there.2), there.2)

  last_there : (index time : ℕ) (entry other : Entry) (notice : Notice) → slice_get history index ≡ Some entry →
      slice_get processes.seen time ≡ Some notice → IsBegunAs name notice other → other.call ≡ entry.call → time ≤ begins index
  last_there index time entry other notice at seen by same =
      let there = of.begun index entry at in
      is.last (of.begins index) time entry.call there.0 notice there.1 (begins_with name there.0 entry there.2) seen
      (begins_with name notice other by ∙ ap Some same)

  -- a call began at another place than its answer
  apart : (time : ℕ) (ended : Ended) → slice_get processes.seen time ≡ Some (Notice.Tells name ended) → (index : ℕ) (entry : Entry) →
      slice_get history index ≡ Some entry → begins index ≡ time → ⊥
  apart time ended here index entry at same =
      let there = begun_there index entry at in
      let says = says_begun name there.0 entry there.2 in
      let told : Notice.Tells name ended ≡ there.0 =
      same_Some (Notice.Tells name ended) there.0 (sym here ∙ ap (slice_get processes.seen) (sym same) ∙ there.1) in
      absurd (let wrong : is_begun (Notice.Tells name ended) ≡ true = ap is_begun told ∙ says in cc)

  told_there : (time : ℕ) (ended : Ended) → slice_get processes.seen time ≡ Some (Notice.Tells name ended) →
      IsToldAt history begins time ended
  told_there time ended here =
      let found = is.told time (Notice.Tells name ended) here refl in
      let told = of.told found.0 ended found.1 in
      -- a call that began later began later in the cluster too
      let later : (other : ℕ) (entry : Entry) → slice_get history other ≡ Some entry → time < begins other → found.0 < of.begins other =
      λ other entry at early. (let there = of.begun other entry at in
      found.2 (of.begins other) there.0 there.1 (says_begun name there.0 entry there.2) early) in record {
        index = told.index;
        entry = told.entry;
        at = told.at;
        call = told.call;
        kind = told.kind;
        value = told.value;
        answered = told.answered;
        before = before told.before (apart time ended here told.index told.entry told.at) (later told.index told.entry told.at);
        order = λ other entry at early. told.order other entry at (later other entry at early);
      }
    where
      before : {place time index began : ℕ} → began < index → (place ≡ time → ⊥) → (time < place → index < began) → place < time
      before {place} {time} {index} {began} less apart later = grind arith

  pub seen_through : IsHistoryOfSeen name processes.seen history
  seen_through = record { begins = begins; begun = begun_there; last = last_there; distinct = of.distinct; told = told_there }

  -- no call of any object began later with the id of a call of the history
  pub seen_last : (index time : ℕ) (entry : Entry) (notice : Notice) → slice_get history index ≡ Some entry →
      slice_get processes.seen time ≡ Some notice → call_begun notice ≡ Some entry.call → time ≤ seen_through.begins index
  unfolding seen_through
  seen_last index time entry notice at seen same =
      let there = of.begun index entry at in
      is.last (of.begins index) time entry.call there.0 notice there.1 (begins_with name there.0 entry there.2) seen same

pub clients_see : LeftLogIsRead → ClientsSeeAtomicHistories
clients_see law processes reached name =
    let has = are_atomic law processes reached name in
    let seen = seen_atomic fragment has.0 fragments_are_code has.2 name in
    (seen.0, seen_through processes has.0 has.3 name seen.0 seen.1, seen.2)
