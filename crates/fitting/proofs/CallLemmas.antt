-- Calls of a fit object that begin, go on, and take replies.
use Rattle.std.proofs.Common.{◌≡◌, ℕ, suc, ◌<◌, ◌^◌, Bool, true, false, cond, List, [], ◌∷◌, ◌++◌, Option, Some, None, refl, sym, subst, ap}
use Rattle.std.proofs.Common.{◌∙◌}
use Rattle.std.specs.List.{AllByRecursion}
use Rattle.std.specs.Prelude.{IfSome, not, ◌==◌}
use Rattle.bank.specs.Bank.{empty_piece}
use Rattle.bank.specs.declared.kind.Kind.{Kind}
use Rattle.bank.specs.declared.kind.Kind.TheVariants as kind
use Rattle.bank.specs.declared.reply.Reply.{Reply}
use Rattle.encoder.specs.Fragment.{fragment}
use Rattle.layout.specs.Layout.{Layout}
use Rattle.local_object.specs.declared.report.Report.{Report}
use Rattle.local_object.specs.Events.{advanced_at, advanced_here, ended_here, pieces_here, queried_here}
use Rattle.local_object.specs.Local.{LocalObject, Place, layout_here}
use Rattle.local_object.specs.Outcomes.{Outcome, begun_here, is_read, on_open_call}
use Rattle.local_object.specs.Reports.{tags_told, without_reports}
use Rattle.local_object.specs.Starting.{reading_call, reads_at}
use Rattle.local_object.specs.Taking.{knows_next}
use Rattle.mail.specs.Phase.{Phase, after_body, has_taken, is_current, with_reply}
use Rattle.mail.specs.declared.message.Body.{Body}
use Rattle.mail.specs.declared.message.Body.TheVariants as body
use Rattle.mail.specs.declared.message.Message.{Message}
use Rattle.node_messages.specs.Message.{IsAnswer, IsBody, IsKind}
use Rattle.open_calls.specs.OpenCalls.{NodeCall, due_phase, open_call, stage_reached, taking_open, with_open, without_call}
use Rattle.open_calls.specs.Queries.{queried}
use Rattle.open_calls.proofs.OpenCallLemmas.{all_filter, all_with, found}
use Rattle.record.specs.PhaseOrder.{begun_at}
use Rattle.record.specs.Steps.{new_phase}
use Rattle.record.specs.declared.call.CallKind.{CallKind}
use Rattle.record.specs.declared.stage.Stage.{Stage}
use Rattle.fitting.specs.Calls.{IsFitCall, IsFitStage, IsFitTaken, WritesShort}
use Rattle.fitting.specs.Events.{HasRoomFor}
use Rattle.fitting.specs.Letters.{IsFitLayout, IsFitLetter}
use Rattle.fitting.specs.Objects.{IsFitObject, IsFitReport}
use Rattle.fitting.proofs.BankLemmas.{opening_fit}
use Rattle.fitting.proofs.ListLemmas.{all_push}
use Rattle.fitting.proofs.KnownLemmas.{known_fit, known_small}
use Rattle.fitting.proofs.ReportLemmas.{reports_filter, told_taken}
use Rattle.fitting.proofs.RequestLemmas.{IsFitFor, knows_fit, pieces_fit, requests_fit}
use Rattle.fitting.proofs.StageLemmas.{begun_stage, due_kind}

-- what a node keeps then is fit, and so are the letters that it sends
pub record IsFitOutcome (done : Outcome) : Type 0 where
  pub local : IsFitObject done.local
  pub sent : AllByRecursion IsFitLetter done.sent

-- other calls are open, which were told these
pub calls_fit : (local : LocalObject) (calls : List NodeCall) (reports : List Report) → IsFitObject local →
    AllByRecursion IsFitReport reports → AllByRecursion (IsFitCall local.places) calls →
    IsFitObject (record local { calls = calls; reports = reports })
calls_fit local calls reports fit told new = record { start = fit.start; places = fit.places; calls = new; reports = told }

-- one call changed
pub call_fit : (local : LocalObject) (call : NodeCall) (reports : List Report) → IsFitObject local →
    AllByRecursion IsFitReport reports → IsFitCall local.places call →
    IsFitObject (record local { calls = with_open call local.calls; reports = reports })
call_fit local call reports fit told new =
    calls_fit local (with_open call local.calls) reports fit told
    (all_with (IsFitCall local.places) (IsFitCall local.places) call local.calls fit.calls new (λ other apart is. is))

-- a call ended
pub ended_fit : (local : LocalObject) (id : ℕ) → IsFitObject local → IsFitObject (ended_here local id)
ended_fit local id fit =
    calls_fit local (without_call id local.calls) (without_reports id local.reports) fit
    (reports_filter (λ report. not (report.call == id)) local.reports fit.reports)
    (all_filter (IsFitCall local.places) (λ call. not (call.id == id)) local.calls fit.calls)

-- what is done with an open call
pub open_fit : (local : LocalObject) (id : ℕ) (change : NodeCall → Outcome) → IsFitObject local →
    ((call : NodeCall) → open_call local.calls id ≡ Some call → IsFitCall local.places call → IsFitOutcome (change call)) →
    IsFitOutcome (on_open_call local (open_call local.calls id) change)
open_fit local id change fit changed = go (open_call local.calls id) refl
  where
    go : (o : Option NodeCall) → open_call local.calls id ≡ o → IsFitOutcome (on_open_call local o change)
    go None e = record { local = fit; sent = tt }
    go (Some call) e = changed call e (found (IsFitCall local.places) local.calls id call fit.calls e).0

-- Calls that begin, and go on

pub begun_fit : (local : LocalObject) (id : ℕ) (call_kind : CallKind) (at : Stage) (k : Kind) (number q : ℕ) (o : Option Layout) →
    IsFitObject local → layout_here local q ≡ o → id < 2 ^ 64 → WritesShort call_kind → IsFitStage at → number < 2 ^ 32 → IsKind k →
    knows_next local.places k q ≡ true → ((m : ℕ) → IsFitFor k (empty_piece m)) →
    IsFitOutcome (begun_here local id call_kind at k number q o)
begun_fit local id call_kind at k number q None fit known small short reached room tag next pieces = record { local = fit; sent = tt }
begun_fit local id call_kind at k number q (Some layout) fit known small short reached room tag next pieces =
    let new : NodeCall =
    record {
      node = local.node;
      id = id;
      kind = call_kind;
      settled = None;
      stage = at;
      phase = new_phase id number k q layout 0;
    } in
    let is : IsFitCall local.places new =
    record {
      id = small;
      written = short;
      settled = tt;
      stage = reached;
      number = room;
      kind = tag;
      next = next;
      replies = tt;
    } in record {
      local = calls_fit local (local.calls ++ new ∷ []) local.reports fit fit.reports
          (all_push (IsFitCall local.places) local.calls new fit.calls is);
      sent = requests_fit local (knows_fit local fit) (is_read call_kind) layout id number k q empty_piece
          (subst (λ (l : Option Layout). IfSome l IsFitLayout) known (known_fit local fit q)) small room
          (known_small local fit q layout known) tag next (λ m within. pieces m);
    }

advanced_fit : (local : LocalObject) (call : NodeCall) (k : Kind) (q : ℕ) (o : Option Layout) → IsFitObject local →
    layout_here local q ≡ o → IsFitCall local.places call → due_phase call ≡ Some (k, q) → HasRoomFor local call k q →
    IsFitOutcome (advanced_at fragment local call (k, q) o)
advanced_fit local call k q None fit known is due room = record { local = fit; sent = tt }
advanced_fit local call k q (Some layout) fit known is due room =
    let lawful : IsFitLayout layout = subst (λ (l : Option Layout). IfSome l IsFitLayout) known (known_fit local fit q) in
    let tag : IsKind k = due_kind call room.stage k q due in
    let new : NodeCall =
    record call { stage = begun_at (stage_reached call) q; phase = new_phase call.id (suc call.phase.number) k q layout 0 } in
    let new_is : IsFitCall local.places new =
    record {
      id = is.id;
      written = is.written;
      settled = is.settled;
      stage = begun_stage (stage_reached call) q room.stage;
      number = room.number;
      kind = tag;
      next = room.next;
      replies = tt;
    } in record {
      local = call_fit local new local.reports fit fit.reports new_is;
      sent = requests_fit local (knows_fit local fit) false layout call.id (suc call.phase.number) k q
          (pieces_here fragment layout call) lawful is.id room.number
          (known_small local fit q layout known) tag room.next (pieces_fit layout call k lawful room.sendable);
    }

pub due_done : (local : LocalObject) (call : NodeCall) (next : Option (Kind × ℕ)) → IsFitObject local → IsFitCall local.places call →
    due_phase call ≡ next → ((k : Kind) (q : ℕ) → due_phase call ≡ Some (k, q) → HasRoomFor local call k q) →
    IsFitOutcome (advanced_here fragment local call next)
due_done local call None fit is due room = record { local = fit; sent = tt }
due_done local call (Some next) fit is due room =
    advanced_fit local call next.0 next.1 (layout_here local next.1) fit refl is due (room next.0 next.1 due)

pub reads_fit : (local : LocalObject) (call : NodeCall) (number q : ℕ) (o : Option Layout) → IsFitObject local → layout_here local q ≡ o →
    IsFitCall local.places call → number < 2 ^ 32 → IsFitOutcome (reads_at local call number q o)
reads_fit local call number q None fit known is room = record { local = fit; sent = tt }
reads_fit local call number q (Some layout) fit known is room =
    let new_is : IsFitCall local.places (reading_call call number q layout) =
    record {
      id = is.id;
      written = is.written;
      settled = is.settled;
      stage = tt;
      number = room;
      kind = tt;
      next = refl;
      replies = tt;
    } in record {
      local = call_fit local (reading_call call number q layout) local.reports fit fit.reports new_is;
      sent = requests_fit local (knows_fit local fit) (is_read call.kind) layout call.id number kind.Next q empty_piece
          (subst (λ (l : Option Layout). IfSome l IsFitLayout) known (known_fit local fit q)) is.id room
          (known_small local fit q layout known)
          tt refl (λ m within. tt);
    }

-- the first reading of a call stands for its query
pub asked_fit : (local : LocalObject) (call : NodeCall) (o : Option Layout) → IsFitObject local → IsFitCall local.places call →
    suc call.phase.number < 2 ^ 32 → IsFitOutcome (queried_here local call o)
asked_fit local call None fit is room = record { local = fit; sent = tt }
asked_fit local call (Some layout) fit is room =
    let told = tags_told layout call.id call.phase.number local.reports in
    let new_is : IsFitCall local.places (queried call layout told) =
    record {
      id = is.id;
      written = is.written;
      settled = is.settled;
      stage = opening_fit;
      number = room;
      kind = tt;
      next = refl;
      replies = told_taken layout call.id call.phase.number local.reports fit.reports;
    } in record { local = call_fit local (queried call layout told) local.reports fit fit.reports new_is; sent = tt }

-- Replies that are taken

replied_fit : (phase : Phase) (member : ℕ) (made : Reply) → AllByRecursion IsFitTaken phase.replies → IsAnswer made.answer →
    AllByRecursion IsFitTaken (with_reply phase member made 0).replies
replied_fit phase member made fit answers =
    all_push IsFitTaken phase.replies (record { member = member; reply = made; step = 0 }) fit answers

-- what stays of a phase that takes a message, and its replies
record StaysAs (old new : Phase) : Type 0 where
  number : new.number ≡ old.number
  kind : new.kind ≡ old.kind
  position : new.position ≡ old.position
  replies : AllByRecursion IsFitTaken new.replies

body_taken : (phase : Phase) (call number member : ℕ) (b : Body) → AllByRecursion IsFitTaken phase.replies → IsBody b →
    StaysAs phase (after_body phase call number member b 0)
body_taken phase call number member (body.Request asked) fit is = record { number = refl; kind = refl; position = refl; replies = fit }
body_taken phase call number member (body.Reply k made) fit is = go (is_current phase call number) (has_taken phase.replies member)
  where
    go : (current taken : Bool) → StaysAs phase (cond current (cond taken phase (with_reply phase member made 0)) phase)
    go false taken = record { number = refl; kind = refl; position = refl; replies = fit }
    go true true = record { number = refl; kind = refl; position = refl; replies = fit }
    go true false = record {
      number = refl;
      kind = refl;
      position = refl;
      replies = replied_fit phase member made fit is.2;
    }

pub taken_call : (places : List Place) (call : NodeCall) (message : Message) → IsBody message.body → IsFitCall places call →
    IsFitCall places (taking_open message call)
taken_call places call message is fit =
    let stays = body_taken call.phase message.call message.phase message.member message.body fit.replies is in record {
      id = fit.id;
      written = fit.written;
      settled = fit.settled;
      stage = fit.stage;
      number = subst (λ n. n < 2 ^ 32) (sym stays.number) fit.number;
      kind = subst IsKind (sym stays.kind) fit.kind;
      next = ap (λ k. knows_next places k (taking_open message call).phase.position) stays.kind
          ∙ ap (knows_next places call.phase.kind) stays.position ∙ fit.next;
      replies = stays.replies;
    }
