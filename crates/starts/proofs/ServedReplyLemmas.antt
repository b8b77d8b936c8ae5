-- A member serves a request of a call's current phase, and the call takes the reply.
use Rattle.std.proofs.Common.{◌≡◌, ℕ, zero, suc, ◌+◌, ◌<◌, ◌&&◌, not, true, false, cond, eqb, List, [], ◌∷◌, ◌++◌, length}
use Rattle.std.proofs.Common.{get_or, set}
use Rattle.std.proofs.Common.{Some, None, is_some, slice_get, refl, sym, ap, ◌∙◌, subst, eq-eqb, arith}
use Rattle.std.proofs.lemmas.List.{set-get_or}
use Rattle.piece.specs.declared.piece.Piece.{Piece}
use Rattle.bank.specs.Bank.{Bank, empty_piece}
use Rattle.bank.specs.Serve.{answer_to, kind_of, reply_to, served_bank}
use Rattle.bank.specs.declared.kind.Kind.{Kind}
use Rattle.bank.specs.declared.reply.Answer.{Answer}
use Rattle.bank.specs.declared.reply.Reply.{Reply}
use Rattle.bank.specs.declared.request.Request.{Request}
use Rattle.mail.specs.Message.{answered}
use Rattle.mail.specs.Phase.{has_taken, is_current, with_reply}
use Rattle.mail.specs.declared.message.Body.TheVariants as body
use Rattle.mail.specs.declared.message.Message.{Message}
use Rattle.record.specs.Fragments.{Code}
use Rattle.record.specs.Records.{no_bank}
use Rattle.record.specs.Sending.{request_to, requests}
use Rattle.open_calls.specs.OpenCalls.{NodeCall, open_call, taking_open, with_open}
use Rattle.network.specs.Worlds.{World, known_layout, member_bank}
use Rattle.network.specs.Events.{Event, happens, on_open}
use Rattle.network.specs.Premises.{WasSent}
use Rattle.network.proofs.StepLemmas.{get_end}
use Rattle.starts.specs.Reading.{HasSent, LeadsTo, world_with}
use Rattle.starts.proofs.LeadingLemmas.{still_sent}

-- The requests of a phase

pub requests_at : (call number : ℕ) (kind : Kind) (position : ℕ) (servers : List ℕ) (first : ℕ) (piece : ℕ → Piece) (place : ℕ) →
    place < length servers → slice_get (requests call number kind position servers first piece) place ≡ Some (record {
      call = call;
      phase = number;
      position = position;
      member = first + place;
      body = body.Request (request_to kind (piece (first + place)));
    })
requests_at call number kind position [] first piece place within = absurd (omega arith)
requests_at call number kind position (server ∷ servers) first piece zero within =
    ap (λ (m : ℕ). let it : Message = record {
      call = call;
      phase = number;
      position = position;
      member = m;
      body = body.Request (request_to kind (piece m));
    } in Some it) (let e : first ≡ first + 0 = omega arith in e)
requests_at call number kind position (server ∷ servers) first piece (suc place) within =
    requests_at call number kind position servers (suc first) piece place (omega arith)
    ∙ ap (λ (m : ℕ). let it : Message = record {
      call = call;
      phase = number;
      position = position;
      member = m;
      body = body.Request (request_to kind (piece m));
    } in Some it) (let e : suc first + place ≡ first + suc place = omega arith in e)

-- the request of a call's current phase to a member
abbrev pub request_of : NodeCall → Request → (member : ℕ) → Message
request_of call asked member = record {
  call = call.id;
  phase = call.phase.number;
  position = call.phase.position;
  member = member;
  body = body.Request asked;
}

pub request_sent : (world : World) (call : NodeCall) (asked : Request) (member : ℕ) → HasSent world call →
    member < length (known_layout world call.node call.phase.position).members →
    ((piece : Piece) → request_to call.phase.kind piece ≡ asked) → WasSent world (request_of call asked member)
request_sent world call asked member sent within same =
    sent member (request_of call asked member)
    (requests_at call.id call.phase.number call.phase.kind call.phase.position
    (known_layout world call.node call.phase.position).members 0 empty_piece member within
    ∙ ap (λ (m : ℕ). let it : Message = record {
      call = call.id;
      phase = call.phase.number;
      position = call.phase.position;
      member = m;
      body = body.Request (request_to call.phase.kind (empty_piece m));
    } in Some it) (let e : 0 + member ≡ member = omega arith in e)
    ∙ ap (λ q. Some (request_of call q member)) (same (empty_piece member)))

-- Serving and taking

module _ (fragment : Code) (world : World) (call : NodeCall) (asked : Request) (told : Answer) (member : ℕ) where
  -- the bank that serves the request, which it does not change, and answers so
  abbrev bank : Bank
  bank = member_bank world call.phase.position member

  -- the reply
  abbrev made : Reply
  made = record { step = 0; answer = told }

  abbrev reply : Message
  reply = record (request_of call asked member) { body = body.Reply (kind_of asked) made }

  -- the call after it took the reply
  abbrev pub told_call : NodeCall
  told_call = record call { phase = with_reply call.phase member made 0 }

  -- the world between the two events
  abbrev served : World
  served = record world { sent = world.sent ++ reply ∷ []; now = suc world.now }

  serves : served_bank bank asked 0 ≡ bank → answer_to bank asked ≡ told →
      happens fragment world (Event.Serve (request_of call asked member)) ≡ served
  serves same is =
      let place = call.phase.position in
      let row = get_or world.banks place [] in
      let sent = world.sent ++ answered (request_of call asked member) (reply_to bank asked 0) ∷ [] in
      let with_banks : List (List Bank) → World = λ banks. record world { banks = banks; sent = sent; now = suc world.now } in
      ap (λ b. with_banks (set world.banks place (set row member b))) same
      ∙ ap (λ r. with_banks (set world.banks place r)) (set-get_or row member no_bank)
      ∙ ap with_banks (set-get_or world.banks place [])
      ∙ ap (λ a. let w : World = record world {
        sent = world.sent ++ answered (request_of call asked member) (record { step = 0; answer = a }) ∷ [];
        now = suc world.now;
      } in w) is

  takes : open_call world.calls call.id ≡ Some call → call.phase.call ≡ call.id → call.phase.end ≡ None →
      has_taken call.phase.replies member ≡ false →
      happens fragment served (Event.Take reply) ≡ world_with world told_call (reply ∷ []) (suc (suc world.now))
  takes found own unended apart =
      ap (λ o. on_open (record served { now = suc (suc world.now) }) o
      (λ c. record served { calls = with_open (taking_open reply c) world.calls; now = suc (suc world.now) })) found
      ∙ ap (λ p. let c : NodeCall = record call { phase = p } in world_with world c (reply ∷ []) (suc (suc world.now)))
      (ap (λ b. cond b (cond (has_taken call.phase.replies member) call.phase (with_reply call.phase member made 0)) call.phase) current
      ∙ ap (λ b. cond b call.phase (with_reply call.phase member made 0)) apart)
    where
      current : is_current call.phase call.id call.phase.number ≡ true
      current =
          ap (λ b. b && (eqb call.phase.number call.phase.number && not (is_some call.phase.end)))
          (eq-eqb call.id call.phase.call (sym own))
          ∙ ap (λ b. b && not (is_some call.phase.end)) (eq-eqb call.phase.number call.phase.number refl)
          ∙ ap (λ o. not (is_some o)) unended

  pub serve_and_take : open_call world.calls call.id ≡ Some call → call.phase.call ≡ call.id → call.phase.end ≡ None →
      has_taken call.phase.replies member ≡ false → HasSent world call → WasSent world (request_of call asked member) →
      served_bank bank asked 0 ≡ bank → answer_to bank asked ≡ told → LeadsTo fragment world told_call 2
  serve_and_take found own unended apart sent was same is =
      let first = serves same is in
      let result = ap (λ w. happens fragment w (Event.Take reply)) first ∙ takes found own unended apart in record {
        events = Event.Serve (request_of call asked member) ∷ Event.Take reply ∷ [];
        few = omega arith;
        may = (
          (asked, refl),
          record { network = was; log = tt; ids = tt },
          (
            (kind_of asked, made, refl),
            record {
              network = subst (λ w. WasSent w reply) (sym first) (length world.sent, get_end world.sent reply);
              log = tt;
              ids = tt;
            },
            tt,
          ),
        );
        sent = reply ∷ [];
        now = suc (suc world.now);
        result = result;
        asked = subst (λ w. HasSent w told_call) (sym result)
            (λ place message at. still_sent world told_call (reply ∷ []) (suc (suc world.now)) message (sent place message at));
      }
