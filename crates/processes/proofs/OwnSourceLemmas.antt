-- The ids that the nodes of processes give: each node gives its own, and none twice.
use Rattle.std.proofs.Common.{◌≡◌, ◌<◌, ◌≤◌, ◌^◌, ℕ, Bool, true, false, cond, eqb, eqb-true, Some}
use Rattle.std.proofs.Common.{refl, sym, subst, ap, ◌∙◌, arith}
use Rattle.std.specs.List.{filter}
use Rattle.std.proofs.lemmas.Option.{same_Some}
use Rattle.deeds.specs.CallId.{CallIds, HasRanges, IdsDiffer}
use Rattle.deeds.specs.Ids.{IsLater, IsNextId}
use Rattle.deeds.specs.Kept.{FileOfNames}
use Rattle.deeds.proofs.IdLemmas.{next_is}
use Rattle.encoder.specs.Fragment.{fragment}
use Rattle.node.specs.Handles.{Handles as HandlesFrame}
use Rattle.node.specs.declared.node.Node.{Node}
use Rattle.node_effects.specs.declared.effects.Effects.{Effects}
use Rattle.node_keeper.specs.Keeping.{kept_of}
use Rattle.node_keeper.specs.declared.keeper.Keeper.{Keeper}
use Rattle.node_strings.specs.Strings.{Strings}
use Rattle.recoveries.specs.OwnCalls.{WasGiven}
use Rattle.recoveries.proofs.LoggedLemmas.{started_epoch, started_given}
use Rattle.processes.specs.Events.{MayHappenTo, ProcessEvent, is_begun, noticed_by, number_of, process_after, processes_after}
use Rattle.processes.specs.Events.{seen_in}
use Rattle.processes.specs.Processes.{Process, Processes}
use Rattle.processes.proofs.GivenIdLemmas.{BeginsAt, HaveGivenIds, calls_given, deeds_begun, ids_later}
use Rattle.processes.proofs.ReadLogLemmas.{own_started}
use Rattle.processes.proofs.ToldOnlyLemmas.{AllTellOnly, first_tell}

-- the node has this number, and its ids have their ranges
pub record IsOwnSource (number : ℕ) (node : Node) : Type 0 where
  pub own : node.keeper.ids.node ≡ number
  pub within : HasRanges node.keeper.ids

-- so have the nodes of all processes that run
abbrev pub AllOwn : Processes → Type 0
AllOwn processes = (number : ℕ) (node : Node) → (processes.at number).running ≡ Some node → IsOwnSource number node

-- what a node did with a frame, as to ids
module _ (node after : Node) (frame : Strings) (effects : Effects) (handles : HandlesFrame node frame effects after) where
  pub handled_later : IsLater node.keeper.ids after.keeper.ids
  handled_later =
      ids_later node.keeper.ids after.keeper.ids handles.handled.handled.deeds handles.handled.handled.ids

  pub handled_given : HaveGivenIds node.keeper.ids (filter is_begun (noticed_by effects)) after.keeper.ids
  handled_given =
      calls_given node.keeper.ids after.keeper.ids (noticed_by effects)
      (subst (λ ns. HaveGivenIds node.keeper.ids ns after.keeper.ids) (sym handles.handled.handled.seen)
      (deeds_begun fragment handles.handled.handled.deeds (kept_of node.keeper).objects node.keeper.ids after.keeper.ids
      handles.handled.handled.ids))

  pub handled_own : (number : ℕ) → IsOwnSource number node → IsOwnSource number after
  handled_own number is = record { own = handled_later.node ∙ is.own; within = handled_later.within }

-- The nodes of all processes

pub own_process : (names : FileOfNames) (processes : Processes) (event : ProcessEvent) → MayHappenTo names processes event →
    AllOwn processes → (node : Node) → (process_after (processes.at (number_of event)) event).running ≡ Some node →
    IsOwnSource (number_of event) node
own_process names processes (ProcessEvent.Starts number read anew new copy after) may all node e =
    let next = started_epoch (kept_of copy.keeper) (kept_of after.keeper) may.started in
    let none = started_given (kept_of copy.keeper) (kept_of after.keeper) may.started in
    let more = may.started.more in
    subst (IsOwnSource number) (same_Some after node e) (record {
      own = (own_started names number (processes.at number) read anew new copy after may).number_is;
      within = (subst (λ n. n < 2 ^ 24) (sym next) more, subst (λ n. n ≤ 2 ^ 32) (sym none) (omega arith));
    })
own_process names processes (ProcessEvent.Notes number after) may all node e =
    let was = all number may.0 may.1 in
    let keeper : after.keeper ≡ may.0.keeper = ap (λ (n : Node). n.keeper) may.2.1 in
    subst (IsOwnSource number) (same_Some after node e) (record {
      own = ap (λ (k : Keeper). k.ids.node) keeper ∙ was.own;
      within = subst (λ (k : Keeper). HasRanges k.ids) (sym keeper) was.within;
    })
own_process names processes (ProcessEvent.Handles number frame effects after) may all node e =
    subst (IsOwnSource number) (same_Some after node e)
    (handled_own may.0.0 after frame effects may.0.2 number (all number may.0.0 may.0.1))
own_process names processes (ProcessEvent.Syncs number count) may all node e = all number node e
own_process names processes (ProcessEvent.Sends number frame) may all node e = all number node e
own_process names processes (ProcessEvent.Tells number) may all node e = all number node e
own_process names processes (ProcessEvent.Rewrites number entries) may all node e = all number node e
own_process names processes (ProcessEvent.Stops number) may all node e = absurd (cc)

pub own_after : (names : FileOfNames) (processes : Processes) (event : ProcessEvent) → MayHappenTo names processes event →
    AllOwn processes → AllOwn (processes_after processes event)
own_after names processes event may all number node = go (eqb number (number_of event)) refl
  where
    process : Process
    process = process_after (processes.at (number_of event)) event

    go : (b : Bool) → eqb number (number_of event) ≡ b → (cond b process (processes.at number)).running ≡ Some node →
        IsOwnSource number node
    go true t e =
        subst (λ n. IsOwnSource n node) (sym (eqb-true number (number_of event) t)) (own_process names processes event may all node e)
    go false t e = all number node e

-- Ids of other nodes

ids_differ : IdsDiffer
ids_differ node epoch number other later more a b c d e = (omega arith, omega arith, omega arith)

-- an id that one node gave is given by no other
other_node : (ids before after : CallIds) (id : ℕ) → WasGiven ids id → IsNextId before id after → ids.node ≡ before.node
other_node ids before after id given is =
    let a = next_is given.now id given.next in
    let b = next_is is.now id is.next in
    let same = ids_differ given.now.node given.now.epoch given.now.given is.now.node is.now.epoch is.now.given given.within.0 a.0
    is.reached.within.0 b.0 (sym a.1 ∙ b.1) in
    given.later.node ∙ ap (λ (i : CallIds). i.node) a.2 ∙ same.0 ∙ is.reached.node

-- no call that begins at another process has an id that this one has given
pub other_fresh : (names : FileOfNames) (processes : Processes) (event : ProcessEvent) (number : ℕ) (ids : CallIds) →
    MayHappenTo names processes event → AllOwn processes → AllTellOnly processes → (number_of event ≡ number → ⊥) → ids.node ≡ number →
    (place id : ℕ) → BeginsAt (seen_in (processes.at (number_of event)) event) place id → WasGiven ids id → ⊥
other_fresh names processes (ProcessEvent.Handles other frame effects after) number ids may all only differ own place id begins given =
    let node = may.0.0 in
    let one = (handled_given node after frame effects may.0.2).given place id begins in
    differ (sym (all other node may.0.1).own ∙ sym (other_node ids node.keeper.ids one.0 id given one.1) ∙ own)
other_fresh names processes (ProcessEvent.Tells other) number ids may all only differ own place id begins given =
    first_tell (processes.at other).answers (only other) place id begins
other_fresh names processes (ProcessEvent.Starts other read anew new copy after) number ids may all only differ own place id begins given =
    absurd (let at = begins.1 in cc)
other_fresh names processes (ProcessEvent.Notes other after) number ids may all only differ own place id begins given =
    absurd (let at = begins.1 in cc)
other_fresh names processes (ProcessEvent.Syncs other count) number ids may all only differ own place id begins given =
    absurd (let at = begins.1 in cc)
other_fresh names processes (ProcessEvent.Sends other frame) number ids may all only differ own place id begins given =
    absurd (let at = begins.1 in cc)
other_fresh names processes (ProcessEvent.Rewrites other entries) number ids may all only differ own place id begins given =
    absurd (let at = begins.1 in cc)
other_fresh names processes (ProcessEvent.Stops other) number ids may all only differ own place id begins given =
    absurd (let at = begins.1 in cc)
