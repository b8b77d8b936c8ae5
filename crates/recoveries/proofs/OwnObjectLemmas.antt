-- All objects of a node are its own.
use Rattle.std.proofs.Common.{◌≡◌, ℕ, suc, Bool, true, false, cond, List, [], ◌∷◌, Option, Some, None, refl, sym, subst, ◌∙◌}
use Rattle.std.specs.List.{AllByRecursion}
use Rattle.layout.specs.Layout.{Layout}
use Rattle.bank.specs.declared.kind.Kind.{Kind}
use Rattle.encoder.specs.Fragment.{fragment}
use Rattle.mail.specs.declared.message.Body.{Body}
use Rattle.mail.specs.declared.message.Body.TheVariants as body
use Rattle.record.specs.declared.call.CallKind.{CallKind}
use Rattle.record.specs.declared.stage.Stage.{Stage}
use Rattle.open_calls.specs.OpenCalls.{NodeCall, due_phase, open_call, with_open}
use Rattle.letter.specs.declared.letter.Letter.{Letter}
use Rattle.letter.specs.declared.start.Start.{Start}
use Rattle.local_object.specs.Events.{LocalEvent, advanced_at, advanced_here, all_done, done_here, queried_here, served_here}
use Rattle.local_object.specs.Events.{taking_here}
use Rattle.local_object.specs.Outcomes.{Outcome, begun_here, layouts_learnt, learnt_from, on_open_call, silent}
use Rattle.local_object.specs.Starting.{anew_number, number_at, reads_at, reads_here}
use Rattle.local_object.specs.Local.{LocalObject, heard_start_if, last_position, layout_here, learnt_if, with_heard}
use Rattle.local_object.specs.Doing.{IsOutcome}
use Rattle.local_object.specs.May.{MayAllHappen, MayHappenHere}
use Rattle.local_object.proofs.HeardPlaceLemmas.{layout_stays, layout_with}
use Rattle.deeds.specs.Kept.{FileOfNames, KeptNode}
use Rattle.deeds.specs.Named.{is_same_name}
use Rattle.deeds.proofs.NameLemmas.{names_decided}
use Rattle.object_letters.specs.Rebuildable.{IsFit}
use Rattle.object_letters.proofs.RebuildableLemmas.{new_rebuildable, stays_rebuildable}
use Rattle.recoveries.specs.Records.{IsKeptUnder}
use Rattle.recoveries.proofs.LoggedLemmas.{started_number}
use Rattle.recoveries.specs.RewrittenLaws.{NewNodesHaveOwn, StartsKeepOwn}
use Rattle.recoveries.specs.RewritingNodes.{HasOwnObjects, IsObjectOf}

-- What no event changes: the node, how many versions are kept, and the layouts that the node has heard of

pub record StaysSame (q : ℕ) (layout : Layout) (old new : LocalObject) : Type 0 where
  pub node : new.node ≡ old.node
  pub delta : new.delta ≡ old.delta
  pub known : layout_here old q ≡ Some layout → layout_here new q ≡ Some layout

module _ (q : ℕ) (layout : Layout) where
  itself : (local : LocalObject) → StaysSame q layout local local
  itself local = record { node = refl; delta = refl; known = λ e. e }

  then_same : (a b c : LocalObject) → StaysSame q layout a b → StaysSame q layout b c → StaysSame q layout a c
  then_same a b c first second = record {
    node = second.node ∙ first.node;
    delta = second.delta ∙ first.delta;
    known = λ e. second.known (first.known e);
  }

  heard_same : (local : LocalObject) (p : ℕ) (other : Layout) → StaysSame q layout local (with_heard local p other)
  heard_same local p other = record { node = refl; delta = refl; known = λ e. layout_stays local p other q layout e }

  heard_if_same : (local : LocalObject) (p : ℕ) (o : Option Layout) → StaysSame q layout local (learnt_if local p o)
  heard_if_same local p None = itself local
  heard_if_same local p (Some other) = heard_same local p other

  start_same : (local : LocalObject) (o : Option Start) → StaysSame q layout local (heard_start_if local o)
  start_same local None = itself local
  start_same local (Some start) = record {
    node = refl;
    delta = refl;
    known = λ e. layout_stays local start.position start.layout q layout e;
  }

  letter_same : (local : LocalObject) (letter : Letter) → StaysSame q layout local (learnt_from local letter)
  letter_same local letter =
      let first = with_heard local letter.message.position letter.layout in
      let second = layouts_learnt local letter in
      then_same local second (learnt_from local letter)
      (then_same local first second (heard_same local letter.message.position letter.layout)
      (heard_if_same first (suc letter.message.position) letter.next))
      (start_same second letter.start)

  begun_same : (local : LocalObject) (id : ℕ) (kind : CallKind) (stage : Stage) (asked : Kind) (number p : ℕ)
      (o : Option Layout) → StaysSame q layout local (begun_here local id kind stage asked number p o).local
  begun_same local id kind stage asked number p None = itself local
  begun_same local id kind stage asked number p (Some other) = record { node = refl; delta = refl; known = λ e. e }

  advanced_same : (local : LocalObject) (call : NodeCall) (o : Option (Kind × ℕ))
      → StaysSame q layout local (advanced_here fragment local call o).local
  advanced_same local call None = itself local
  advanced_same local call (Some next) = go (layout_here local next.1)
    where
      go : (o : Option Layout) → StaysSame q layout local (advanced_at fragment local call next o).local
      go None = itself local
      go (Some other) = record { node = refl; delta = refl; known = λ e. e }

  called_same : (local : LocalObject) (o : Option NodeCall) (change : NodeCall → Outcome)
      → ((call : NodeCall) → StaysSame q layout local (change call).local) → StaysSame q layout local (on_open_call local o change).local
  called_same local None change changed = itself local
  called_same local (Some call) change changed = changed call

  reads_same : (local : LocalObject) (call : NodeCall) (number start : ℕ) (o : Option Layout)
      → StaysSame q layout local (reads_at local call number start o).local
  reads_same local call number start None = itself local
  reads_same local call number start (Some other) = record { node = refl; delta = refl; known = λ e. e }

  queried_same : (local : LocalObject) (call : NodeCall) (o : Option Layout)
      → StaysSame q layout local (queried_here local call o).local
  queried_same local call None = itself local
  queried_same local call (Some other) = record { node = refl; delta = refl; known = λ e. e }

  served_same : (local : LocalObject) (letter : Letter) (b : Body) → StaysSame q layout local (served_here local letter b).local
  served_same local letter (body.Request asked) = record {
    node = refl;
    delta = refl;
    known = λ e. layout_with local letter.message.position _ q ∙ e;
  }
  served_same local letter (body.Reply kind made) = itself local

  event_same : (local : LocalObject) (event : LocalEvent) → StaysSame q layout local (done_here fragment local event).local
  event_same local (LocalEvent.BeginRead id) =
      begun_same local id _ _ _ _ local.start (layout_here local local.start)
  event_same local (LocalEvent.BeginWrite id value) =
      begun_same local id _ _ _ _ local.start (layout_here local local.start)
  event_same local (LocalEvent.BeginMove id new) =
      let next = with_heard local (suc (last_position local)) new in
      then_same local next (done_here fragment local (LocalEvent.BeginMove id new)).local
      (heard_same local (suc (last_position local)) new)
      (begun_same next id _ _ _ _ (last_position local) (layout_here next (last_position local)))
  event_same local (LocalEvent.Advance id) =
      called_same local (open_call local.calls id) (λ call. advanced_here fragment local call (due_phase call))
      (λ call. advanced_same local call (due_phase call))
  event_same local (LocalEvent.Serve letter) =
      let heard = learnt_from local letter in
      then_same local heard (done_here fragment local (LocalEvent.Serve letter)).local (letter_same local letter)
      (served_same heard letter letter.message.body)
  event_same local (LocalEvent.Take letter) =
      let heard = learnt_from local letter in
      then_same local heard (done_here fragment local (LocalEvent.Take letter)).local (letter_same local letter)
      (called_same heard (open_call heard.calls letter.message.call)
      (λ call. silent (taking_here heard call letter.message letter.told))
      (λ call. record { node = refl; delta = refl; known = λ e. e }))
  event_same local (LocalEvent.Settle id value) =
      called_same local (open_call local.calls id)
      (λ call. silent (record local { calls = with_open (record call { settled = Some value }) local.calls }))
      (λ call. record { node = refl; delta = refl; known = λ e. e })
  event_same local (LocalEvent.Answer id) = record { node = refl; delta = refl; known = λ e. e }
  event_same local (LocalEvent.GiveUp id) = record { node = refl; delta = refl; known = λ e. e }
  event_same local (LocalEvent.EndEarly id value) = record { node = refl; delta = refl; known = λ e. e }
  event_same local (LocalEvent.Close position) = record {
    node = refl;
    delta = refl;
    known = λ e. layout_with local position _ q ∙ e;
  }
  event_same local (LocalEvent.Raise position) = record {
    node = refl;
    delta = refl;
    known = λ e. layout_with local position _ q ∙ e;
  }
  event_same local (LocalEvent.Grow id) = record { node = refl; delta = refl; known = λ e. e }
  event_same local (LocalEvent.Hear letter) = letter_same local letter
  event_same local (LocalEvent.Redirect letter) = itself local
  event_same local (LocalEvent.ReadOn id) =
      called_same local (open_call local.calls id) (λ call. reads_here local call (number_at call local.start))
      (λ call. reads_same local call (number_at call local.start) local.start (layout_here local local.start))
  event_same local (LocalEvent.BeginAnew id) =
      called_same local (open_call local.calls id) (λ call. reads_here local call (anew_number call local.start))
      (λ call. reads_same local call (anew_number call local.start) local.start (layout_here local local.start))
  event_same local (LocalEvent.Query id) =
      called_same local (open_call local.calls id) (λ call. queried_here local call (layout_here local call.phase.position))
      (λ call. queried_same local call (layout_here local call.phase.position))

-- Events keep an object the node's own

module _ (file : FileOfNames) (number : ℕ) (name : List ℕ) where
  pub event_own : (local : LocalObject) (event : LocalEvent) → MayHappenHere fragment local event → IsFit event
      → IsObjectOf file number name local → IsObjectOf file number name (done_here fragment local event).local
  event_own local event may fit own =
      let same = event_same 0 (file.first name) local event in record {
        node = same.node ∙ own.node;
        limit = same.delta ∙ own.limit;
        first = same.known own.first;
        rebuildable = stays_rebuildable local event own.rebuildable may fit;
      }

  pub all_own : (local : LocalObject) (events : List LocalEvent) → MayAllHappen fragment local events → AllByRecursion IsFit events
      → IsObjectOf file number name local → IsObjectOf file number name (all_done fragment local events).local
  all_own local [] may fit own = own
  all_own local (event ∷ events) may fit own =
      all_own (done_here fragment local event).local events may.1 fit.1 (event_own local event may.0 fit.0 own)

-- one object changes
pub put_own : (old new : KeptNode) (name : List ℕ) (local : LocalObject) → IsKeptUnder old name local new
    → IsObjectOf old.file old.ids.node name local → HasOwnObjects old → HasOwnObjects new
put_own old new name local put here own other =
    let to : IsObjectOf old.file old.ids.node other (new.objects other) =
    subst (IsObjectOf old.file old.ids.node other) (sym (put.objects other)) (go (is_same_name name other) refl) in
    subst (λ (n : ℕ). IsObjectOf new.file n other (new.objects other)) (sym put.node)
    (subst (λ (f : FileOfNames). IsObjectOf f old.ids.node other (new.objects other)) (sym put.file) to)
  where
    go : (b : Bool) → is_same_name name other ≡ b → IsObjectOf old.file old.ids.node other (cond b local (old.objects other))
    go true e = subst (λ (n : List ℕ). IsObjectOf old.file old.ids.node n local) ((names_decided name other).0 e) here
    go false e = own other

-- events that are done at one object
pub done_own : (old new : KeptNode) (name : List ℕ) (local : LocalObject) (events : List LocalEvent) (sent : List Letter)
    → AllByRecursion IsFit events → IsOutcome (old.objects name) events local sent → IsKeptUnder old name local new
    → HasOwnObjects old → HasOwnObjects new
done_own old new name local events sent fit done put own =
    put_own old new name local put
    (subst (IsObjectOf old.file old.ids.node name) (sym done.local)
    (all_own old.file old.ids.node name (old.objects name) events done.may fit (own name))) own

pub new_own : NewNodesHaveOwn
new_own file number lawful name = record {
  node = refl;
  limit = refl;
  first = refl;
  rebuildable = new_rebuildable number file.delta (file.first name) (lawful name);
}

pub same_own : (old new : KeptNode) → HasOwnObjects old → new.file ≡ old.file → new.ids.node ≡ old.ids.node
    → ((name : List ℕ) → new.objects name ≡ old.objects name) → HasOwnObjects new
same_own old new own file node objects name =
    subst (λ (n : ℕ). IsObjectOf new.file n name (new.objects name)) (sym node)
    (subst (λ (f : FileOfNames). IsObjectOf f old.ids.node name (new.objects name)) (sym file)
    (subst (IsObjectOf old.file old.ids.node name) (sym (objects name)) (own name)))

pub starts_own : StartsKeepOwn
starts_own old new own = (
  λ same. same_own old new own same.file same.node same.objects,
  λ started. same_own old new own started.file (started_number old new started) started.objects,
)
