-- No event changes the number of a node.
use Rattle.std.proofs.Common.{◌≡◌, ℕ, suc, Option, Some, None, refl, ◌∙◌}
use Rattle.layout.specs.Layout.{Layout}
use Rattle.bank.specs.declared.kind.Kind.{Kind}
use Rattle.bank.specs.declared.kind.Kind.TheVariants.{Next, Spread}
use Rattle.bank.specs.declared.status.Status.TheVariants.{Pending}
use Rattle.mail.specs.declared.message.Body.{Body}
use Rattle.mail.specs.declared.message.Body.TheVariants as body
use Rattle.record.specs.declared.call.CallKind.{CallKind}
use Rattle.record.specs.declared.call.CallKind.TheVariants.{Read, Write, Move}
use Rattle.record.specs.declared.stage.Stage.{Stage}
use Rattle.record.specs.declared.stage.Stage.TheVariants.{ReadNext}
use Rattle.record.specs.Fragments.{Code}
use Rattle.record.specs.Legal.{first_stage}
use Rattle.open_calls.specs.OpenCalls.{NodeCall, due_phase, open_call, with_open}
use Rattle.letter.specs.declared.letter.Letter.{Letter}
use Rattle.local_object.specs.Local.{LocalObject, last_position, layout_here, with_heard}
use Rattle.local_object.specs.Events.{LocalEvent, advanced_at, advanced_here, done_here, queried_here, served_here, taking_here}
use Rattle.local_object.specs.Outcomes.{Outcome, begun_here, learnt_from, on_open_call, silent}
use Rattle.local_object.specs.Starting.{anew_number, first_number, number_at, reads_at, reads_here}
use Rattle.local_object.proofs.HeardLayoutLemmas.{node_heard}

begun_node : (local : LocalObject) (id : ℕ) (call_kind : CallKind) (stage : Stage) (kind : Kind) (number position : ℕ)
    (o : Option Layout) → (begun_here local id call_kind stage kind number position o).local.node ≡ local.node
begun_node local id call_kind stage kind number position None = refl
begun_node local id call_kind stage kind number position (Some layout) = refl

advanced_node : (fragment : Code) (local : LocalObject) (call : NodeCall) (o : Option (Kind × ℕ)) →
    (advanced_here fragment local call o).local.node ≡ local.node
advanced_node fragment local call None = refl
advanced_node fragment local call (Some next) = go (layout_here local next.1)
  where
    go : (o : Option Layout) → (advanced_at fragment local call next o).local.node ≡ local.node
    go None = refl
    go (Some layout) = refl

call_node : (local : LocalObject) (o : Option NodeCall) (change : NodeCall → Outcome) →
    ((call : NodeCall) → (change call).local.node ≡ local.node) → (on_open_call local o change).local.node ≡ local.node
call_node local None change each = refl
call_node local (Some call) change each = each call

reads_node : (local : LocalObject) (call : NodeCall) (number start : ℕ) (o : Option Layout) →
    (reads_at local call number start o).local.node ≡ local.node
reads_node local call number start None = refl
reads_node local call number start (Some layout) = refl

queried_node : (local : LocalObject) (call : NodeCall) (o : Option Layout) →
    (queried_here local call o).local.node ≡ local.node
queried_node local call None = refl
queried_node local call (Some layout) = refl

served_node : (local : LocalObject) (letter : Letter) (b : Body) → (served_here local letter b).local.node ≡ local.node
served_node local letter (body.Request asked) = refl
served_node local letter (body.Reply kind made) = refl

pub node_kept : (fragment : Code) (local : LocalObject) (event : LocalEvent) → (done_here fragment local event).local.node ≡ local.node
node_kept fragment local (LocalEvent.BeginRead id) =
    begun_node local id Read (ReadNext local.start local.start) Next (first_number local.start) local.start (layout_here local local.start)
node_kept fragment local (LocalEvent.BeginWrite id value) =
    begun_node local id (Write value) (ReadNext local.start local.start) Next (first_number local.start) local.start
    (layout_here local local.start)
node_kept fragment local (LocalEvent.BeginMove id layout) =
    let last = last_position local in
    let next = with_heard local (suc last) layout in
    begun_node next id Move (first_stage Move last) (Spread Pending) 1 last (layout_here next last)
node_kept fragment local (LocalEvent.Advance id) =
    call_node local (open_call local.calls id) (λ call. advanced_here fragment local call (due_phase call))
    (λ call. advanced_node fragment local call (due_phase call))
node_kept fragment local (LocalEvent.Serve letter) =
    served_node (learnt_from local letter) letter letter.message.body ∙ node_heard local letter
node_kept fragment local (LocalEvent.Take letter) =
    let next = learnt_from local letter in
    call_node next (open_call next.calls letter.message.call)
    (λ call. silent (taking_here next call letter.message letter.told)) (λ call. refl)
    ∙ node_heard local letter
node_kept fragment local (LocalEvent.Settle id value) =
    call_node local (open_call local.calls id)
    (λ call. silent (record local { calls = with_open (record call { settled = Some value }) local.calls })) (λ call. refl)
node_kept fragment local (LocalEvent.Answer id) = refl
node_kept fragment local (LocalEvent.GiveUp id) = refl
node_kept fragment local (LocalEvent.EndEarly id value) = refl
node_kept fragment local (LocalEvent.Close position) = refl
node_kept fragment local (LocalEvent.Raise position) = refl
node_kept fragment local (LocalEvent.Grow id) = refl
node_kept fragment local (LocalEvent.Hear letter) = node_heard local letter
node_kept fragment local (LocalEvent.Redirect letter) = refl
node_kept fragment local (LocalEvent.ReadOn id) =
    call_node local (open_call local.calls id) (λ call. reads_here local call (number_at call local.start))
    (λ call. reads_node local call (number_at call local.start) local.start (layout_here local local.start))
node_kept fragment local (LocalEvent.Query id) =
    call_node local (open_call local.calls id) (λ call. queried_here local call (layout_here local call.phase.position))
    (λ call. queried_node local call (layout_here local call.phase.position))
node_kept fragment local (LocalEvent.BeginAnew id) =
    call_node local (open_call local.calls id) (λ call. reads_here local call (anew_number call local.start))
    (λ call. reads_node local call (anew_number call local.start) local.start (layout_here local local.start))
