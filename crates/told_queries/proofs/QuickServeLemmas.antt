-- The events of a query that follows at once: a member whose pointer is unset serves a request, the call takes the reply,
-- and with those of a quorum it goes on to query.
use Rattle.std.proofs.Common.{◌≡◌, inl, ℕ, suc, ◌<◌, false, List, [], ◌∷◌, ◌++◌, length, map, get_or, set}
use Rattle.std.proofs.Common.{Some, IsSome, is_some, refl, sym, ap, ◌∙◌, subst}
use Rattle.std.proofs.lemmas.List.{length-map, map_push, set-get_or}
use Rattle.layout.specs.Layout.{Layout}
use Rattle.bank.specs.Bank.{Bank, empty_piece}
use Rattle.bank.specs.Pointer.{status_of}
use Rattle.bank.specs.Serve.{greatest_final}
use Rattle.bank.specs.declared.kind.Kind.TheVariants.{Fetch, Next, Query}
use Rattle.bank.specs.declared.reply.Answer.TheVariants as answer
use Rattle.bank.specs.declared.request.Request.TheVariants as request
use Rattle.bank.specs.declared.status.Status.TheVariants as status
use Rattle.mail.specs.Message.{answered}
use Rattle.mail.specs.declared.message.Body.TheVariants as body
use Rattle.mail.specs.declared.message.Message.{Message}
use Rattle.mail.specs.Phase.{Phase, after_take, has_taken, lacks_pieces}
use Rattle.record.specs.declared.stage.Stage.{Stage}
use Rattle.record.specs.Fragments.{Code, IsFetch}
use Rattle.record.specs.PhaseOrder.{after, after_next, begun_at, due, greatest_status}
use Rattle.record.specs.Records.{no_bank}
use Rattle.record.specs.Sending.{requests}
use Rattle.record.specs.Steps.{new_phase}
use Rattle.open_calls.specs.OpenCalls.{NodeCall, due_phase, open_call, stage_reached, taking_open, with_open}
use Rattle.open_calls.specs.Queries.{query_stage}
use Rattle.open_calls.proofs.TakenRepliesLemmas.{enough_taken, reply_message, takes_one, unset_reply, with_taken}
use Rattle.network.specs.Worlds.{World, known_layout, member_bank}
use Rattle.network.specs.Events.{Event, MayHappen, advanced_world, call_pieces, happens, on_open, phase_requests}
use Rattle.starts.proofs.ServedReplyLemmas.{request_of}
use Rattle.told_queries.specs.Laws.{IsFirstReading}
use Rattle.told_queries.proofs.BesideLemmas.{querying}
use Rattle.told_queries.proofs.LastTakesLemmas.{query_reply, takes}
use Rattle.told_queries.proofs.UnsetPointerLemmas.{HasUnset}

-- The messages, and the call

-- the reply of a member, whose pointer is unset, to the call's first reading
abbrev pub unset_message : NodeCall → (member : ℕ) → Message
unset_message call member = reply_message call.id call.phase.number Next call.phase.position (unset_reply member)

-- the call after it took such replies of these members
abbrev pub gathered : NodeCall → (members : List ℕ) → NodeCall
gathered call members = record call { phase = with_taken call.phase (map unset_reply members) }

-- the requests of the query that follows the call's current phase at the same position, which has this layout
abbrev pub query_requests : NodeCall → Layout → List Message
query_requests call layout =
    requests call.id (suc call.phase.number) Query call.phase.position layout.members 0 empty_piece

-- A member serves, and the call takes its reply

-- the world after a member served
abbrev pub world_served : World → NodeCall → (member : ℕ) → World
world_served world call member =
    record world { sent = world.sent ++ unset_message call member ∷ []; now = suc world.now }

-- the world after the call took one more reply
abbrev pub world_gathered : World → NodeCall → (members : List ℕ) → World
world_gathered world call members =
    record world { calls = with_open (gathered call members) world.calls; now = suc world.now }

-- serving this request leaves the banks as they are
banks_stay : (world : World) (position member : ℕ) (sent : List Message) →
    record world {
      banks = set world.banks position (set (get_or world.banks position []) member (member_bank world position member));
      sent = sent;
      now = suc world.now;
    } ≡ record world { sent = sent; now = suc world.now }
banks_stay world position member sent =
    let row = get_or world.banks position [] in
    let with_banks : List (List Bank) → World = λ banks. record world { banks = banks; sent = sent; now = suc world.now } in
    ap (λ r. with_banks (set world.banks position r)) (set-get_or row member no_bank)
    ∙ ap with_banks (set-get_or world.banks position [])

pub serves_unset : (fragment : Code) (world : World) (call : NodeCall) (member : ℕ) → HasUnset world call.phase.position member →
    happens fragment world (Event.Serve (request_of call request.Next member)) ≡ world_served world call member
serves_unset fragment world call member unset =
    banks_stay world call.phase.position member (world.sent ++ answered (request_of call request.Next member)
    (record { step = 0; answer = answer.Pointer (status_of (member_bank world call.phase.position member).pointer) }) ∷ [])
    ∙ ap (λ s. let w : World = record world {
      sent = world.sent ++ answered (request_of call request.Next member) (record { step = 0; answer = answer.Pointer s }) ∷ [];
      now = suc world.now;
    } in w) unset

-- a member serves a request of the query
pub serves_query : (fragment : Code) (world : World) (call : NodeCall) (layout : Layout) (member : ℕ) →
    happens fragment world (Event.Serve (request_of (querying call layout) request.Query member))
    ≡ record world {
      sent = world.sent ++ query_reply call
          (record { member = member; tag = greatest_final (member_bank world call.phase.position member) }) ∷ [];
      now = suc world.now;
    }
serves_query fragment world call layout member =
    banks_stay world call.phase.position member (world.sent ++ query_reply call
    (record { member = member; tag = greatest_final (member_bank world call.phase.position member) }) ∷ [])

one_more_taken : (call : NodeCall) (members : List ℕ) (member : ℕ) → call.phase.call ≡ call.id →
    length members < call.phase.quorum → has_taken (map unset_reply members) member ≡ false →
    taking_open (unset_message call member) (gathered call members) ≡ gathered call (members ++ member ∷ [])
one_more_taken call members member own few apart =
    ap (λ (p : Phase). let c : NodeCall = record call { phase = p } in c)
    (ap (λ id. after_take (with_taken call.phase (map unset_reply members))
    (reply_message id call.phase.number Next call.phase.position (unset_reply member)) 0) (sym own)
    ∙ takes_one call.phase Next call.phase.position (map unset_reply members) (unset_reply member)
    (subst (λ n. n < call.phase.quorum) (sym (length-map members unset_reply)) few) apart refl
    ∙ ap (with_taken call.phase) (sym (map_push unset_reply members member)))

pub takes_unset : (fragment : Code) (world : World) (call : NodeCall) (members : List ℕ) (member : ℕ) →
    open_call world.calls call.id ≡ Some (gathered call members) → call.phase.call ≡ call.id →
    length members < call.phase.quorum → has_taken (map unset_reply members) member ≡ false →
    happens fragment world (Event.Take (unset_message call member)) ≡ world_gathered world call (members ++ member ∷ [])
takes_unset fragment world call members member found own few apart =
    takes fragment world (gathered call members) (unset_message call member) found refl
    ∙ ap (λ c. let w : World = record world { calls = with_open c world.calls; now = suc world.now } in w)
    (one_more_taken call members member own few apart)

-- The call goes on to query

greatest_unset : (members : List ℕ) → greatest_status (map unset_reply members) ≡ status.Unset
greatest_unset [] = refl
greatest_unset (m ∷ members) = greatest_unset members

-- a query sends no pieces
same_requests : (fragment : Code) (world : World) (caller : NodeCall) (call number position : ℕ) (servers : List ℕ) (member : ℕ) →
    requests call number Query position servers member (call_pieces fragment world caller position)
    ≡ requests call number Query position servers member empty_piece
same_requests fragment world caller call number position [] member = refl
same_requests fragment world caller call number position (server ∷ servers) member =
    ap (λ l. let it : Message = record {
      call = call;
      phase = number;
      position = position;
      member = member;
      body = body.Request request.Query;
    } in it ∷ l) (same_requests fragment world caller call number position servers (suc member))

module _ (fragment : Code) (world : World) (call : NodeCall) (layout : Layout) (members : List ℕ)
    (found : open_call world.calls call.id ≡ Some (gathered call members)) (first : IsFirstReading call)
    (quorum : length members ≡ call.phase.quorum) where
  -- the call with the replies of a quorum
  abbrev complete : NodeCall
  complete = record call { phase = record call.phase { replies = map unset_reply members; end = Some 0 } }

  found_complete : open_call world.calls call.id ≡ Some complete
  found_complete = found ∙ ap (λ (p : Phase). let c : NodeCall = record call { phase = p } in Some c)
      (enough_taken call.phase (map unset_reply members) (length-map members unset_reply ∙ quorum))

  reached : stage_reached complete ≡ query_stage call.phase.position
  reached =
      ap (λ s. after call.kind call.id s (map unset_reply members) (lacks_pieces complete.phase)) first.stage
      ∙ ap (λ s. after_next s call.phase.position call.phase.position) (greatest_unset members)

  due_is : due_phase complete ≡ Some (Query, call.phase.position)
  due_is = ap (λ s. due (begun_at s 0)) reached

  -- the world in which the call has begun to query
  abbrev pub world_querying : World
  world_querying = record world {
    calls = with_open (querying call layout) world.calls;
    sent = world.sent ++ query_requests call layout;
    now = suc world.now;
  }

  pub may_query : MayHappen fragment world (Event.Advance call.id)
  may_query = (
    complete,
    found_complete,
    inl (record { complete = refl; fetched = λ fetch. no_fetch fetch }, ap is_some due_is),
  )
    where
      no_fetch : IsFetch call.phase.kind → IsSome call.settled
      no_fetch fetch = absurd (let clash : Next ≡ Fetch fetch.0 = sym first.kind ∙ fetch.1 in cc)

  pub queries : known_layout world call.node call.phase.position ≡ layout →
      happens fragment world (Event.Advance call.id) ≡ world_querying
  queries known =
      ap (λ o. on_open ticked o (λ c. advanced_world fragment ticked c (due_phase c))) found_complete
      ∙ ap (advanced_world fragment ticked complete) due_is
      ∙ ap (λ s. let w : World = record world {
        calls = with_open (begun (begun_at s call.phase.position) (known_layout world call.node call.phase.position)) world.calls;
        sent = world.sent ++ phase_requests world call.node call.id (suc call.phase.number) Query call.phase.position
            (call_pieces fragment ticked complete call.phase.position);
        now = suc world.now;
      } in w) reached
      ∙ ap (λ (l : Layout). let w : World = record world {
        calls = with_open (querying call l) world.calls;
        sent = world.sent ++ requests call.id (suc call.phase.number) Query call.phase.position l.members 0
            (call_pieces fragment ticked complete call.phase.position);
        now = suc world.now;
      } in w) known
      ∙ ap (λ r. let w : World = record world {
        calls = with_open (querying call layout) world.calls;
        sent = world.sent ++ r;
        now = suc world.now;
      } in w) (same_requests fragment ticked complete call.id (suc call.phase.number) call.phase.position layout.members 0)
    where
      ticked : World
      ticked = record world { now = suc world.now }

      begun : Stage → Layout → NodeCall
      begun stage l = record call {
        stage = stage;
        phase = new_phase call.id (suc call.phase.number) Query call.phase.position l 0;
      }
