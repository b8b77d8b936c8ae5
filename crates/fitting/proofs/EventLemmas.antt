-- Whatever a node does with a fit object, if there is room for it, the object stays fit, and the letters sent are fit.
use Rattle.std.proofs.Common.{suc, [], ◌∷◌, Some, refl, arith}
use Rattle.bank.specs.declared.kind.Kind.TheVariants as kind
use Rattle.bank.specs.declared.status.Status.TheVariants as status
use Rattle.encoder.specs.Fragment.{fragment}
use Rattle.letter.specs.declared.letter.Letter.{Letter}
use Rattle.local_object.specs.Events.{LocalEvent, advanced_here, all_done, done_here, queried_here, taking_here}
use Rattle.local_object.specs.Local.{LocalObject, last_position, layout_here, told_start, with_heard}
use Rattle.local_object.specs.Outcomes.{learnt_from, silent}
use Rattle.local_object.specs.Starting.{anew_number, first_number, number_at, reads_here}
use Rattle.open_calls.specs.OpenCalls.{due_phase, taking_open, with_open}
use Rattle.open_calls.proofs.ListLemmas.{all_append}
use Rattle.record.specs.Legal.{first_stage}
use Rattle.record.specs.declared.call.CallKind.TheVariants as calls
use Rattle.record.specs.declared.stage.Stage.TheVariants as stage
use Rattle.fitting.specs.Events.{HasRoom}
use Rattle.fitting.specs.Laws.{AllStayFit, StaysFit}
use Rattle.fitting.specs.Letters.{IsFitLetter}
use Rattle.fitting.specs.Objects.{IsFitObject}
use Rattle.fitting.proofs.PlaceLemmas.{heard_fit, heard_known, learnt_fit}
use Rattle.fitting.proofs.CallLemmas.{IsFitOutcome, asked_fit, begun_fit, call_fit, due_done, ended_fit, open_fit, reads_fit}
use Rattle.fitting.proofs.CallLemmas.{taken_call}
use Rattle.fitting.proofs.ReportLemmas.{reports_fit}
use Rattle.fitting.proofs.RequestLemmas.{knows_fit, starts_fit}
use Rattle.fitting.proofs.ServingLemmas.{served_fit}
use Rattle.fitting.proofs.ClosingLemmas.{close_fit, raise_fit}

-- a letter that is sent back tells the node's own start
told_letter : (local : LocalObject) (letter : Letter) → IsFitObject local → IsFitLetter letter →
    IsFitLetter (record letter { start = told_start local })
told_letter local letter fit is = record {
  layout = is.layout;
  call = is.call;
  phase = is.phase;
  position = is.position;
  member = is.member;
  body = is.body;
  named = is.named;
  next = is.next;
  start = starts_fit local (knows_fit local fit);
  short = is.short;
  role = is.role;
  told = is.told;
}

-- Any event

event_done : (local : LocalObject) (event : LocalEvent) → IsFitObject local → HasRoom local event →
    IsFitOutcome (done_here fragment local event)
event_done local (LocalEvent.BeginRead id) fit room =
    begun_fit local id calls.Read (stage.ReadNext local.start local.start) kind.Next (first_number local.start) local.start
    (layout_here local local.start) fit refl room tt tt fit.start tt refl (λ m. tt)
event_done local (LocalEvent.BeginWrite id value) fit room =
    begun_fit local id (calls.Write value) (stage.ReadNext local.start local.start) kind.Next (first_number local.start) local.start
    (layout_here local local.start) fit refl room.0 room.1 tt fit.start tt refl (λ m. tt)
event_done local (LocalEvent.BeginMove id layout) fit room =
    let last = last_position local in
    let next = with_heard local (suc last) layout in
    begun_fit next id calls.Move (first_stage calls.Move last) (kind.Spread status.Pending) 1 last (layout_here next last)
    (heard_fit local (suc last) layout room.2 room.1 fit) refl room.0 tt tt (omega arith) tt
    (heard_known local (suc last) layout) (λ m. tt)
event_done local (LocalEvent.Advance id) fit room =
    open_fit local id (λ call. advanced_here fragment local call (due_phase call)) fit
    (λ call e is. due_done local call (due_phase call) fit is refl (room call e))
event_done local (LocalEvent.Serve letter) fit room = served_fit local letter room.1 room.0 fit letter.message.body refl
event_done local (LocalEvent.Take letter) fit room =
    let next = learnt_from local letter in
    let heard_is = learnt_fit local letter room.0 room.1 fit in
    open_fit next letter.message.call
    (λ call. silent (taking_here next call letter.message letter.told)) heard_is
    (λ call e is. record {
      local = call_fit next (taking_open letter.message call) _ heard_is
          (reports_fit call.kind call.phase.number letter.message letter.told next.reports room.0.told heard_is.reports)
          (taken_call next.places call letter.message room.0.body is);
      sent = tt;
    })
event_done local (LocalEvent.Settle id value) fit room =
    open_fit local id (λ call. silent (record local { calls = with_open (record call { settled = Some value }) local.calls })) fit
    (λ call e is. record {
      local = call_fit local (record call { settled = Some value }) local.reports fit fit.reports (record {
        id = is.id;
        written = is.written;
        settled = room;
        stage = is.stage;
        number = is.number;
        kind = is.kind;
        next = is.next;
        replies = is.replies;
      });
      sent = tt;
    })
event_done local (LocalEvent.Answer id) fit room = record { local = ended_fit local id fit; sent = tt }
event_done local (LocalEvent.GiveUp id) fit room = record { local = ended_fit local id fit; sent = tt }
event_done local (LocalEvent.EndEarly id value) fit room = record { local = ended_fit local id fit; sent = tt }
event_done local (LocalEvent.Close position) fit room = record { local = close_fit local position fit; sent = tt }
event_done local (LocalEvent.Grow id) fit room = record {
  local = record { start = omega (arith, room); places = fit.places; calls = fit.calls; reports = fit.reports };
  sent = tt;
}
event_done local (LocalEvent.Hear letter) fit room = record { local = learnt_fit local letter room.0 room.1 fit; sent = tt }
event_done local (LocalEvent.Redirect letter) fit room = record { local = fit; sent = (told_letter local letter fit room, tt) }
event_done local (LocalEvent.ReadOn id) fit room =
    open_fit local id (λ call. reads_here local call (number_at call local.start)) fit
    (λ call e is. reads_fit local call (number_at call local.start) local.start (layout_here local local.start) fit refl is (room call e))
event_done local (LocalEvent.BeginAnew id) fit room =
    open_fit local id (λ call. reads_here local call (anew_number call local.start)) fit
    (λ call e is. reads_fit local call (anew_number call local.start) local.start (layout_here local local.start) fit refl is (room call e))
event_done local (LocalEvent.Query id) fit room =
    open_fit local id (λ call. queried_here local call (layout_here local call.phase.position)) fit
    (λ call e is. asked_fit local call (layout_here local call.phase.position) fit is (room call e))
event_done local (LocalEvent.Raise position) fit room = record { local = raise_fit local position room fit; sent = tt }

pub event_fit : StaysFit
event_fit local event fit room = let done = event_done local event fit room in (done.local, done.sent)

pub events_fit : AllStayFit
events_fit local [] fit room = (fit, tt)
events_fit local (event ∷ events) fit room =
    let first = event_done local event fit room.0 in
    let next = done_here fragment local event in
    let rest = events_fit next.local events first.local room.1 in
    (rest.0, all_append IsFitLetter next.sent (all_done fragment next.local events).sent first.sent rest.1)
