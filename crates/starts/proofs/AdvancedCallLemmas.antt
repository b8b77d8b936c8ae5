-- A call begins its next phase.
use Rattle.std.proofs.Common.{◌≡◌, inl, ℕ, suc, List, [], ◌∷◌, ◌++◌}
use Rattle.std.proofs.Common.{Some, IsSome, is_some, slice_get, refl, sym, ap, ◌∙◌, subst, arith}
use Rattle.piece.specs.declared.piece.Piece.{Piece}
use Rattle.bank.specs.Bank.{empty_piece}
use Rattle.bank.specs.declared.kind.Kind.{Kind}
use Rattle.mail.specs.declared.message.Body.TheVariants as body
use Rattle.mail.specs.declared.message.Message.{Message}
use Rattle.record.specs.declared.stage.Stage.{Stage}
use Rattle.record.specs.Fragments.{Code, IsFetch}
use Rattle.record.specs.PhaseOrder.{begun_at, due}
use Rattle.record.specs.Sending.{request_to, requests}
use Rattle.record.specs.Steps.{new_phase}
use Rattle.open_calls.specs.OpenCalls.{NodeCall, due_phase, open_call, stage_reached}
use Rattle.network.specs.Worlds.{World, known_layout}
use Rattle.network.specs.Events.{Event, advanced_world, call_pieces, happens, on_open, phase_requests}
use Rattle.starts.specs.Reading.{HasSent, LeadsTo, world_with}

pub found_after : {A : Type 0} (xs ys : List A) (i : ℕ) (x : A) → slice_get ys i ≡ Some x →
    (place : ℕ) × (slice_get (xs ++ ys) place ≡ Some x)
found_after [] ys i x at = (i, at)
found_after (y ∷ xs) ys i x at = let there = found_after xs ys i x at in (suc there.0, there.1)

-- a phase of this kind sends no pieces
abbrev pub SendsNone : Kind → Type 0
SendsNone kind = (a b : Piece) → request_to kind a ≡ request_to kind b

requests_same : (call number : ℕ) (kind : Kind) (position : ℕ) (servers : List ℕ) (member : ℕ) (one other : ℕ → Piece) →
    SendsNone kind →
    requests call number kind position servers member one ≡ requests call number kind position servers member other
requests_same call number kind position [] member one other none = refl
requests_same call number kind position (server ∷ servers) member one other none =
    let rest = requests_same call number kind position servers (suc member) one other none in
    ap (λ q. let it : Message = record {
      call = call;
      phase = number;
      position = position;
      member = member;
      body = body.Request q;
    } in it ∷ requests call number kind position servers (suc member) one) (none (one member) (other member))
    ∙ ap (λ l. let it : Message = record {
      call = call;
      phase = number;
      position = position;
      member = member;
      body = body.Request (request_to kind (other member));
    } in it ∷ l) rest

-- the call as it begins a phase of this kind at a position, from the stage to which the last one led
abbrev pub advanced_call : World → NodeCall → Stage → Kind → (position : ℕ) → NodeCall
advanced_call world call stage kind position = record call {
  stage = begun_at stage position;
  phase = new_phase call.id (suc call.phase.number) kind position (known_layout world call.node position) 0;
}

pub advances : (fragment : Code) (world : World) (call : NodeCall) (stage : Stage) (kind : Kind) (position : ℕ) →
    open_call world.calls call.id ≡ Some call → IsSome call.phase.end → (IsFetch call.phase.kind → IsSome call.settled) →
    stage_reached call ≡ stage → due (begun_at stage 0) ≡ Some (kind, position) → SendsNone kind →
    LeadsTo fragment world (advanced_call world call stage kind position) 1
advances fragment world call stage kind position found ended fetched reached is_due none = record {
  events = Event.Advance call.id ∷ [];
  few = omega arith;
  may = (
    (call, found, inl (record { complete = ended; fetched = fetched }, ap is_some due_is)),
    record { network = tt; log = tt; ids = tt },
    tt,
  );
  sent = sent;
  now = suc world.now;
  result = result;
  asked = subst (λ w. HasSent w new) (sym result) (λ place message at. found_after world.sent sent place message
      (ap (λ l. slice_get l place) (requests_same call.id (suc call.phase.number) kind position
      (known_layout world call.node position).members 0 (call_pieces fragment world call position) empty_piece none) ∙ at));
}
  where
    new : NodeCall
    new = advanced_call world call stage kind position

    due_is : due_phase call ≡ Some (kind, position)
    due_is = ap (λ s. due (begun_at s 0)) reached ∙ is_due

    sent : List Message
    sent = phase_requests world call.node call.id (suc call.phase.number) kind position (call_pieces fragment world call position)

    result : happens fragment world (Event.Advance call.id) ≡ world_with world new sent (suc world.now)
    result =
        ap (λ o. on_open (record world { now = suc world.now }) o
        (λ c. advanced_world fragment (record world { now = suc world.now }) c (due_phase c))) found
        ∙ ap (advanced_world fragment (record world { now = suc world.now }) call) due_is
        ∙ ap (λ s. world_with world (advanced_call world call s kind position) sent (suc world.now)) reached
