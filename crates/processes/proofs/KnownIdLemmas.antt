-- No call begins with an id that a call of the cluster has.
use Rattle.std.proofs.Common.{◌≡◌, ◌⊎◌, inl, inr, ◌<◌, ◌≤◌, ◌+◌, ◌^◌, ℕ, Bool, true, false, cond, eqb, eqb-true, eq-eqb}
use Rattle.std.proofs.Common.{List, [], ◌∷◌, ◌++◌, length, drop, take, Option, Some, slice_get, refl, sym, subst, ap, ◌∙◌, arith}
use Rattle.std.proofs.lemmas.List.{take-append-drop, take-take}
use Rattle.std.proofs.lemmas.Option.{same_Some}
use Rattle.deeds.specs.CallId.{CallIds, HasRanges, IdsDiffer, after_given, next_given_id}
use Rattle.deeds.specs.Deeds.{Notice}
use Rattle.deeds.specs.Ids.{IsLater}
use Rattle.deeds.specs.Kept.{FileOfNames, KeptNode, new_node}
use Rattle.deeds.specs.Named.{NamedLetter as Named}
use Rattle.deeds.proofs.IdLemmas.{next_is}
use Rattle.deeds.proofs.UsedIdLemmas.{IsUsed, next_unused, with_ids}
use Rattle.recoveries.specs.Copies.{IsCopyOf, IsRecorded}
use Rattle.recoveries.specs.Records.{LogRecord, Recovers, RecoversOne}
use Rattle.recoveries.proofs.LoggedLemmas.{started_epoch, started_given, started_number}
use Rattle.recoveries.proofs.ServedNameLemmas.{parted}
use Rattle.node_keeper.specs.Keeping.{kept_of}
use Rattle.node.specs.declared.node.Node.{Node}
use Rattle.node_strings.specs.Strings.{Strings}
use Rattle.refinement.specs.Clusters.{NodeCluster}
use Rattle.refinement.proofs.PlaceLemmas.{get_first, get_split}
use Rattle.processes.specs.Events.{MayStart}
use Rattle.processes.specs.Processes.{Process, Processes}
use Rattle.processes.proofs.FateLemmas.{loses}
use Rattle.processes.proofs.GivenIdLemmas.{BeginsAt, HaveGivenIds}
use Rattle.processes.proofs.LogLemmas.{all_records, all_records_append}
use Rattle.processes.proofs.ReadLogLemmas.{AreFirst, new_carried, number_kept}
use Rattle.processes.proofs.StandingLemmas.{Stands, left_in}

-- the id was given by its node, which gives later ones now: the node of the cluster, and the one that runs, if one does
pub record IsKnown (running : ℕ → Option Node) (ids : ℕ → CallIds) (id : ℕ) : Type 0 where
  pub now : CallIds
  pub within : HasRanges now
  pub next : next_given_id now ≡ Some id
  pub kept : IsLater (after_given now) (ids now.node)
  pub runs : (node : Node) → running now.node ≡ Some node → IsLater (after_given now) node.keeper.ids

abbrev pub running_at : Processes → ℕ → Option Node
running_at processes number = (processes.at number).running

abbrev pub ids_at : NodeCluster → ℕ → CallIds
ids_at cluster number = (cluster.nodes number).ids

-- the ids of all calls of the cluster are known
abbrev pub AreKnown : Processes → NodeCluster → Type 0
AreKnown processes cluster = (place id : ℕ) → BeginsAt cluster.notices place id → IsKnown (running_at processes) (ids_at cluster) id

-- what the node of the cluster gave, and the one that ran, is given by the one that runs then
abbrev pub RunsOn : (ids : CallIds) → (before after : Option Node) → Type 0
RunsOn ids before after = (given : CallIds) → IsLater given ids → ((node : Node) → before ≡ Some node → IsLater given node.keeper.ids) →
    (node : Node) → after ≡ Some node → IsLater given node.keeper.ids

-- no call of these has the id of one of those
abbrev pub AreNew : (old new : List Notice) → Type 0
AreNew old new = (one other id : ℕ) → BeginsAt old one id → BeginsAt new other id → ⊥

pub known_after : (running then : ℕ → Option Node) (ids later : ℕ → CallIds) (number : ℕ) →
    ((other : ℕ) → (other ≡ number → ⊥) → then other ≡ running other) →
    ((other : ℕ) → (other ≡ number → ⊥) → later other ≡ ids other) →
    ((given : CallIds) → IsLater given (ids number) → IsLater given (later number)) →
    RunsOn (ids number) (running number) (then number) → (id : ℕ) → IsKnown running ids id → IsKnown then later id
known_after running then ids later number others_run others kept runs id is =
    let both = go (eqb is.now.node number) refl in
    record { now = is.now; within = is.within; next = is.next; kept = both.0; runs = both.1 }
  where
    given : CallIds
    given = after_given is.now

    Both : ℕ → Type 0
    Both n = IsLater given (later n) × ((node : Node) → then n ≡ Some node → IsLater given node.keeper.ids)

    go : (b : Bool) → eqb is.now.node number ≡ b → Both is.now.node
    go true e =
        let same = eqb-true is.now.node number e in
        let old = subst (λ n. IsLater given (ids n)) same is.kept in
        subst Both (sym same) (
          kept given old,
          runs given old
              (subst (λ n. (node : Node) → running n ≡ Some node → IsLater given node.keeper.ids) same is.runs),
        )
    go false e =
        let differ : is.now.node ≡ number → ⊥ =
        λ same. absurd (let wrong : false ≡ true = sym e ∙ eq-eqb is.now.node number same in cc) in (
          subst (IsLater given) (sym (others is.now.node differ)) is.kept,
          λ node r. is.runs node (sym (others_run is.now.node differ) ∙ r),
        )

ids_differ : IdsDiffer
ids_differ node epoch number other later more a b c d e = (omega arith, omega arith, omega arith)

-- one id is given at one time alone
same_given : (one two : CallIds) (id : ℕ) → next_given_id one ≡ Some id → next_given_id two ≡ Some id → HasRanges one →
    HasRanges two → one ≡ two
same_given one two id first second within also =
    let a = next_is one id first in
    let b = next_is two id second in
    let same = ids_differ one.node one.epoch one.given two.node two.epoch two.given within.0 a.0 also.0 b.0 (sym a.1 ∙ b.1) in
    λ i. record { node = same.0 i; epoch = same.1 i; given = same.2 i }

-- an id that the running node gives now is another one
pub known_new : (running : ℕ → Option Node) (ids : ℕ → CallIds) (number : ℕ) (node : Node) (after : CallIds) (notices seen : List Notice) →
    running number ≡ Some node → node.keeper.ids.node ≡ number →
    ((place id : ℕ) → BeginsAt notices place id → IsKnown running ids id) → HaveGivenIds node.keeper.ids seen after →
    AreNew notices seen
known_new running ids number node after notices seen runs own known are one other id begins also =
    let is = known one id begins in
    let given = are.given other id also in
    let used : IsUsed (with_ids ids number node.keeper.ids) id =
    record { now = is.now; within = is.within; next = is.next; later = go is (eqb is.now.node number) refl } in
    next_unused ids number node.keeper.ids given.0 id id own given.1 used refl
  where
    go : (is : IsKnown running ids id) (b : Bool) → eqb is.now.node number ≡ b →
        IsLater (after_given is.now) (cond b node.keeper.ids (ids is.now.node))
    go is true e = is.runs node (ap running (eqb-true is.now.node number e) ∙ runs)
    go is false e = is.kept

-- what the node of the cluster gave in a step, and the one that runs gave in it too, is known then
pub told_known : (then : ℕ → Option Node) (later : ℕ → CallIds) (number : ℕ) (mine : CallIds) (after : Node)
    (seen told unseen : List Notice) (before kept : CallIds) → seen ≡ told ++ unseen → HaveGivenIds mine seen after.keeper.ids →
    HaveGivenIds before told kept → mine.node ≡ number → later number ≡ kept → then number ≡ Some after →
    (place id : ℕ) → BeginsAt told place id → IsKnown then later id
told_known then later number mine after seen told unseen before kept first given also own ids runs place id begins =
    let at : BeginsAt seen place id =
    (begins.0, subst (λ ns. slice_get ns place ≡ Some begins.0) (sym first) (get_first told unseen place begins.0 begins.1), begins.2) in
    let one = given.given place id at in
    let two = also.given place id begins in
    let same = same_given one.1.now two.1.now id one.1.next two.1.next one.1.reached.within two.1.reached.within in
    let there : one.1.now.node ≡ number = one.1.reached.node ∙ own in record {
      now = one.1.now;
      within = one.1.reached.within;
      next = one.1.next;
      kept = subst (λ n. IsLater (after_given one.1.now) (later n)) (sym there)
          (subst (IsLater (after_given one.1.now)) (sym ids)
          (subst (λ c. IsLater (after_given c) kept) (sym same) (subst (λ c. IsLater c kept) (sym two.1.left) two.2)));
      runs = λ node e. subst (λ (n : Node). IsLater (after_given one.1.now) n.keeper.ids)
          (same_Some after node (sym runs ∙ ap then (sym there) ∙ e))
          (subst (λ c. IsLater c after.keeper.ids) (sym one.1.left) one.2);
    }

-- what is known of the first notices and of the others is known of all
pub both_known : (P : ℕ → Type 0) (xs ys : List Notice) → ((place id : ℕ) → BeginsAt xs place id → P id) →
    ((place id : ℕ) → BeginsAt ys place id → P id) → (place id : ℕ) → BeginsAt (xs ++ ys) place id → P id
both_known P xs ys first second place id begins = go (get_split xs ys place begins.0 begins.1)
  where
    go : (slice_get xs place ≡ Some begins.0) ⊎ ((k : ℕ) × (place ≡ length xs + k) × (slice_get ys k ≡ Some begins.0)) → P id
    go (inl at) = first place id (begins.0, at, begins.2)
    go (inr at) = second at.0 id (begins.0, at.2, begins.2)

-- Starts

one_epoch : (one : LogRecord) (old new : KeptNode) → RecoversOne one old new → old.ids.epoch ≤ new.ids.epoch
one_epoch LogRecord.Starts old new is = let next = started_epoch old new is in omega arith
one_epoch (LogRecord.Serves name letter) old new is = let same = is.put.epoch in omega arith
one_epoch (LogRecord.Takes name letter) old new is = let same = is.put.epoch in omega arith
one_epoch (LogRecord.Moves name id layout) old new is = let same = is.put.epoch in omega arith
one_epoch (LogRecord.Hears name position layout) old new is = let same = is.put.epoch in omega arith
one_epoch (LogRecord.Closes name position) old new is = let same = is.put.epoch in omega arith

epochs_rise : (records : List LogRecord) (old new : KeptNode) → Recovers records old new → old.ids.epoch ≤ new.ids.epoch
epochs_rise [] old new same = let e = same.epoch in omega arith
epochs_rise (one ∷ records) old new is =
    let first = one_epoch one old is.0 is.1 in
    let rest = epochs_rise records is.0 new is.2 in omega arith

-- a node that starts gives later ids than the node of the cluster gave
pub start_later : (names : FileOfNames) (number most : ℕ) (process : Process) (kept : KeptNode) (letters : List Named)
    (notices : List Notice) (found : List Strings) (anew : Option (List Strings)) (new copy after : Node) → most ≤ length found →
    Stands names number (Some most) process kept letters notices → AreFirst process found →
    MayStart names number process found anew new copy after → IsLater kept.ids after.keeper.ids
start_later names number most process kept letters notices found anew new copy after few is first may =
    let recovers : Recovers (all_records (take most found) ++ all_records (drop most found)) (new_node names number) (kept_of copy.keeper) =
    subst (λ rs. Recovers rs (new_node names number) (kept_of copy.keeper))
    (ap all_records (sym (take-append-drop most found)) ∙ all_records_append (take most found) (drop most found))
    (new_carried names number process found anew new copy after may) in
    let parts = parted (all_records (take most found)) (all_records (drop most found)) (new_node names number) (kept_of copy.keeper)
    recovers in
    let recorded : IsRecorded (new_node names number) (all_records (take most found)) kept =
    subst (λ (es : List Strings). IsRecorded (new_node names number) (all_records es) kept) front is.recorded in
    let copied : IsCopyOf kept parts.0 = recorded parts.0 parts.1 in
    let epoch = copied.epoch in
    let rises = epochs_rise (all_records (drop most found)) parts.0 (kept_of copy.keeper) parts.2 in
    let next = started_epoch (kept_of copy.keeper) (kept_of after.keeper) may.started in
    let more = may.started.more in
    let none = started_given (kept_of copy.keeper) (kept_of after.keeper) may.started in record {
      node = started_number (kept_of copy.keeper) (kept_of after.keeper) may.started
          ∙ number_kept (all_records (drop most found)) parts.0 (kept_of copy.keeper) parts.2 ∙ copied.number;
      within = (subst (λ e. e < 2 ^ 24) (sym next) more, subst (λ n. n ≤ 2 ^ 32) (sym none) (omega arith));
      order = inl (omega arith);
    }
  where
    left : left_in (Some most) process ≡ most
    left = loses most (length process.log) (let longer = first.most in omega arith)

    front : take (left_in (Some most) process) process.log ≡ take most found
    front = ap (λ n. take n process.log) left ∙ sym (take-take most (length found) process.log few) ∙ ap (take most) first.those
