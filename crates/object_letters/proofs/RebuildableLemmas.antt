-- Whatever a node does with an object, its banks came to be by requests to the node.
use Rattle.std.proofs.Common.{ℕ, suc, Option, Some, None, sym, subst}
use Rattle.layout.specs.Layout.{Layout, IsLawful}
use Rattle.encoder.specs.Fragment.{fragment}
use Rattle.bank.specs.declared.kind.Kind.{Kind}
use Rattle.mail.specs.declared.message.Body.{Body}
use Rattle.record.specs.declared.call.CallKind.{CallKind}
use Rattle.record.specs.declared.stage.Stage.{Stage}
use Rattle.open_calls.specs.OpenCalls.{NodeCall, due_phase, open_call, with_open}
use Rattle.local_object.specs.Local.{LocalObject, last_position, layout_here, with_heard, new_local}
use Rattle.local_object.specs.Events.{LocalEvent, advanced_at, advanced_here, done_here, queried_here, served_here}
use Rattle.local_object.specs.Events.{taking_here}
use Rattle.local_object.specs.Outcomes.{Outcome, begun_here, learnt_from, on_open_call, silent}
use Rattle.local_object.specs.Starting.{anew_number, number_at, reads_at, reads_here}
use Rattle.local_object.specs.May.{MayHappenHere}
use Rattle.object_letters.specs.Rebuildable.{IsFit, IsRebuildable}
use Rattle.object_letters.proofs.HeardPositionLemmas.{heard_rebuildable, letter_rebuildable}
use Rattle.object_letters.proofs.OwnBankLemmas.{close_rebuildable, raise_rebuildable, serve_rebuildable}

pub new_rebuildable : (node : ℕ) (delta : Option ℕ) (first : Layout) → IsLawful first → IsRebuildable (new_local node delta first)
new_rebuildable node delta first lawful = record {
  apart = (tt, tt);
  places = (record { lawful = lawful; own = tt }, tt);
}

-- Calls

begun_rebuildable : (local : LocalObject) (id : ℕ) (kind : CallKind) (stage : Stage) (asked : Kind) (number p : ℕ)
    (o : Option Layout) → IsRebuildable local → IsRebuildable (begun_here local id kind stage asked number p o).local
begun_rebuildable local id kind stage asked number p None is = is
begun_rebuildable local id kind stage asked number p (Some layout) is = record { apart = is.apart; places = is.places }

reads_rebuildable : (local : LocalObject) (call : NodeCall) (number start : ℕ) (o : Option Layout) → IsRebuildable local
    → IsRebuildable (reads_at local call number start o).local
reads_rebuildable local call number start None is = is
reads_rebuildable local call number start (Some layout) is = record { apart = is.apart; places = is.places }

advanced_rebuildable : (local : LocalObject) (call : NodeCall) (o : Option (Kind × ℕ)) → IsRebuildable local
    → IsRebuildable (advanced_here fragment local call o).local
advanced_rebuildable local call None is = is
advanced_rebuildable local call (Some next) is = go (layout_here local next.1)
  where
    go : (o : Option Layout) → IsRebuildable (advanced_at fragment local call next o).local
    go None = is
    go (Some layout) = record { apart = is.apart; places = is.places }

queried_rebuildable : (local : LocalObject) (call : NodeCall) (o : Option Layout) → IsRebuildable local
    → IsRebuildable (queried_here local call o).local
queried_rebuildable local call None is = is
queried_rebuildable local call (Some layout) is = record { apart = is.apart; places = is.places }

called_rebuildable : (local : LocalObject) (o : Option NodeCall) (change : NodeCall → Outcome) → IsRebuildable local
    → ((call : NodeCall) → IsRebuildable (change call).local) → IsRebuildable (on_open_call local o change).local
called_rebuildable local None change is changed = is
called_rebuildable local (Some call) change is changed = changed call

-- Any event
pub stays_rebuildable : (local : LocalObject) (event : LocalEvent) → IsRebuildable local → MayHappenHere fragment local event
    → IsFit event → IsRebuildable (done_here fragment local event).local
stays_rebuildable local (LocalEvent.BeginRead id) is may fit =
    begun_rebuildable local id _ _ _ _ local.start (layout_here local local.start) is
stays_rebuildable local (LocalEvent.BeginWrite id value) is may fit =
    begun_rebuildable local id _ _ _ _ local.start (layout_here local local.start) is
stays_rebuildable local (LocalEvent.BeginMove id layout) is may fit =
    let next = with_heard local (suc (last_position local)) layout in
    begun_rebuildable next id _ _ _ _ (last_position local) (layout_here next (last_position local))
    (heard_rebuildable local (suc (last_position local)) layout may.0 is)
stays_rebuildable local (LocalEvent.Advance id) is may fit =
    called_rebuildable local (open_call local.calls id) (λ call. advanced_here fragment local call (due_phase call)) is
    (λ call. advanced_rebuildable local call (due_phase call) is)
stays_rebuildable local (LocalEvent.Serve letter) is may fit =
    let heard = learnt_from local letter in
    subst (λ (b : Body). IsRebuildable (served_here heard letter b).local) (sym may.0.1)
    (serve_rebuildable heard letter may.0.0 (letter_rebuildable local letter fit is) may.1.0 may.1.1 may.1.2)
stays_rebuildable local (LocalEvent.Take letter) is may fit =
    let heard = learnt_from local letter in
    let heard_is = letter_rebuildable local letter fit is in
    called_rebuildable heard (open_call heard.calls letter.message.call)
    (λ call. silent (taking_here heard call letter.message letter.told)) heard_is
    (λ call. record { apart = heard_is.apart; places = heard_is.places })
stays_rebuildable local (LocalEvent.Settle id value) is may fit =
    called_rebuildable local (open_call local.calls id)
    (λ call. silent (record local { calls = with_open (record call { settled = Some value }) local.calls })) is
    (λ call. record { apart = is.apart; places = is.places })
stays_rebuildable local (LocalEvent.Answer id) is may fit = record { apart = is.apart; places = is.places }
stays_rebuildable local (LocalEvent.GiveUp id) is may fit = record { apart = is.apart; places = is.places }
stays_rebuildable local (LocalEvent.Close position) is may fit = close_rebuildable local position is may
stays_rebuildable local (LocalEvent.Grow id) is may fit = record { apart = is.apart; places = is.places }
stays_rebuildable local (LocalEvent.Hear letter) is may fit = letter_rebuildable local letter fit is
stays_rebuildable local (LocalEvent.Redirect letter) is may fit = is
stays_rebuildable local (LocalEvent.ReadOn id) is may fit =
    called_rebuildable local (open_call local.calls id) (λ call. reads_here local call (number_at call local.start)) is
    (λ call. reads_rebuildable local call (number_at call local.start) local.start (layout_here local local.start) is)
stays_rebuildable local (LocalEvent.BeginAnew id) is may fit =
    called_rebuildable local (open_call local.calls id) (λ call. reads_here local call (anew_number call local.start)) is
    (λ call. reads_rebuildable local call (anew_number call local.start) local.start (layout_here local local.start) is)
stays_rebuildable local (LocalEvent.Raise position) is may fit = raise_rebuildable local position is may.bank
stays_rebuildable local (LocalEvent.EndEarly id value) is may fit = record { apart = is.apart; places = is.places }
stays_rebuildable local (LocalEvent.Query id) is may fit =
    called_rebuildable local (open_call local.calls id)
    (λ call. queried_here local call (layout_here local call.phase.position)) is
    (λ call. queried_rebuildable local call (layout_here local call.phase.position) is)
