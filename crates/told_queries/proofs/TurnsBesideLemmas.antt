-- Turns of a run beside those of the other run, one after another, with the replies to the query.
use Rattle.std.proofs.Common.{◌≡◌, ◌<◌, ◌&&◌, Bool, true, false, cond, eqb, eqb-true, eq-eqb, List, [], ◌∷◌, ◌++◌, length, map}
use Rattle.std.proofs.Common.{Option, None, Some, refl, sym, subst, subst₂, ap, ◌∙◌}
use Rattle.layout.specs.Layout.{Layout}
use Rattle.mail.specs.declared.message.Message.{Message}
use Rattle.record.specs.Fragments.{Code}
use Rattle.open_calls.specs.OpenCalls.{NodeCall}
use Rattle.network.specs.Worlds.{World}
use Rattle.network.specs.Events.{Event, happens, world_after}
use Rattle.network.specs.Premises.{WasSent}
use Rattle.told_queries.specs.Courses.{AreWaits, Turn, turn_events}
use Rattle.told_queries.proofs.RunLemmas.{run_append}
use Rattle.told_queries.proofs.SentMessageLemmas.{run_sent}
use Rattle.told_queries.proofs.TurnLemmas.{AreSteps, Beside, append_steps, is_own, query_of, served_request, spare_beside}
use Rattle.told_queries.proofs.TurnLemmas.{turn_beside, with_first}
use Rattle.told_queries.proofs.TurnStepLemmas.{HasSteps, IsKept, asks_first, events_beside, kept_first, kept_second}
use Rattle.told_queries.proofs.TurnStepLemmas.{query_reply}

-- the events that serve a request, and nothing else
served_is : (acts : List Event) (message : Message) → served_request acts ≡ Some message → acts ≡ Event.Serve message ∷ []
served_is (Event.Serve other ∷ []) message e = ap (λ m. Event.Serve m ∷ []) (some_same other message e)
  where
    some_same : (a b : Message) → Some a ≡ Some b → a ≡ b
    some_same a b same = cc
served_is _ message e = absurd (cc)

-- a request of the phase, which a turn about the call serves
pub record IsOwn (begun : NodeCall) (turn : Turn) (message : Message) : Type 0 where
  pub about : turn.call ≡ begun.id
  pub serves : turn.acts ≡ Event.Serve message ∷ []
  pub same_call : message.call ≡ begun.id
  pub same_phase : message.phase ≡ begun.phase.number

both : (a b : Bool) → (a && b) ≡ true → (a ≡ true) × (b ≡ true)
both true true e = (refl, refl)
both true false e = absurd (cc)
both false b e = absurd (cc)

own_is : (begun : NodeCall) (turn : Turn) (message : Message) → served_request turn.acts ≡ Some message →
    is_own begun turn message ≡ true → IsOwn begun turn message
own_is begun turn message served own =
    let first = both (eqb turn.call begun.id) (eqb message.call begun.id && eqb message.phase begun.phase.number) own in
    let second = both (eqb message.call begun.id) (eqb message.phase begun.phase.number) first.1 in record {
      about = eqb-true turn.call begun.id first.0;
      serves = served_is turn.acts message served;
      same_call = eqb-true message.call begun.id second.0;
      same_phase = eqb-true message.phase begun.phase.number second.1;
    }

is_own_there : (begun : NodeCall) (turn : Turn) (message : Message) → IsOwn begun turn message → is_own begun turn message ≡ true
is_own_there begun turn message own =
    ap (λ b. b && (eqb message.call begun.id && eqb message.phase begun.phase.number)) (eq-eqb turn.call begun.id own.about)
    ∙ ap (λ b. b && eqb message.phase begun.phase.number) (eq-eqb message.call begun.id own.same_call)
    ∙ eq-eqb message.phase begun.phase.number own.same_phase

module _ (fragment : Code) (begun : NodeCall) (layout : Layout) (next_of : Event → Event)
    (steps : HasSteps fragment begun layout next_of) where
  abbrev Kept : World → List Event → Type 0
  Kept world events = IsKept fragment begun layout next_of steps world events

  -- there is room, and the query was sent, wherever the turn serves a request of the phase
  pub record MayAsk (world other : World) (turn : Turn) : Type 0 where
    pub room : (message : Message) → IsOwn begun turn message →
        (0 < length turn.spare) × AreWaits (happens fragment world (Event.Serve message)) turn.spare
    pub sent : (message : Message) → IsOwn begun turn message → WasSent other (query_of message)

  -- the turn has one beside it, and if it serves a request of the phase, the query to that member was answered
  pub record HasTurn (world other : World) (turn : Turn) : Type 0 where
    pub does : AreSteps fragment begun layout world other (turn_events turn) (turn_events (turn_beside next_of begun turn))
    pub replied : (message : Message) → IsOwn begun turn message →
        WasSent (world_after fragment (turn_events (turn_beside next_of begun turn)) other)
        (query_reply (happens fragment world (Event.Serve message)) message)

  module _ (world other : World) (turn : Turn) (beside : Beside fragment begun layout world other)
      (kept : Kept world (turn_events turn)) (asks : MayAsk world other turn) where
    abbrev then : World
    then = world_after fragment turn.acts world

    abbrev then_other : World
    then_other = world_after fragment (map next_of turn.acts) other

    -- the turn with the same events beside those in reserve
    abbrev mapped : Turn
    mapped = record turn { spare = map next_of turn.spare }

    abbrev with_spare : List Event → Turn
    with_spare spare = record { call = turn.call; acts = map next_of turn.acts; spare = spare }

    first : AreSteps fragment begun layout world other turn.acts (map next_of turn.acts)
    first =
        events_beside fragment begun layout next_of steps turn.acts world other beside
        (kept_first fragment begun layout next_of steps turn.acts turn.spare world kept)

    later : Kept then turn.spare
    later = kept_second fragment begun layout next_of steps turn.acts turn.spare world kept

    whole : (more : List Event) → AreSteps fragment begun layout then then_other turn.spare more →
        AreSteps fragment begun layout world other (turn.acts ++ turn.spare) (map next_of turn.acts ++ more)
    whole more second =
        append_steps fragment begun layout turn.acts turn.spare (map next_of turn.acts) more world other first second

    -- the turn serves no request of the phase
    plain : (o : Option Message) → ((message : Message) → IsOwn begun turn message → ⊥) →
        spare_beside begun (record turn { spare = map next_of turn.spare }) o ≡ map next_of turn.spare →
        turn_beside next_of begun turn ≡ record { call = turn.call; acts = map next_of turn.acts; spare = map next_of turn.spare } →
        HasTurn world other turn
    plain o none same is = record {
      does = subst (λ t. AreSteps fragment begun layout world other (turn_events turn) (turn_events t)) (sym is)
          (whole (map next_of turn.spare)
          (events_beside fragment begun layout next_of steps turn.spare then then_other first.beside later));
      replied = λ message own. absurd (none message own);
    }

    -- it serves this request of the phase
    asking : (message : Message) → IsOwn begun turn message →
        turn_beside next_of begun turn ≡ record {
          call = turn.call;
          acts = map next_of turn.acts;
          spare = with_first (Event.Serve (query_of message)) (map next_of turn.spare);
        } → HasTurn world other turn
    asking message own is =
        let there : happens fragment world (Event.Serve message) ≡ then = ap (λ acts. world_after fragment acts world) (sym own.serves) in
        let room = asks.room message own in
        let done = asks_first fragment begun layout next_of steps turn.spare then then_other message room.0
        (subst (λ w. AreWaits w turn.spare) there room.1) first.beside later
        (run_sent fragment (map next_of turn.acts) other (query_of message) (asks.sent message own)) in
        let more = with_first (Event.Serve (query_of message)) (map next_of turn.spare) in record {
          does = subst (λ t. AreSteps fragment begun layout world other (turn_events turn) (turn_events t)) (sym is)
              (whole more done.does);
          replied = λ another its.
              let same : another ≡ message = only another its in
              subst₂ (λ t w. WasSent (world_after fragment (turn_events t) other) (query_reply w another)) (sym is)
              (sym there ∙ ap (λ m. happens fragment world (Event.Serve m)) (sym same))
              (subst (λ m. WasSent (world_after fragment (map next_of turn.acts ++ more) other) (query_reply then m)) (sym same)
              (subst (λ w. WasSent w (query_reply then message)) (sym (run_append fragment (map next_of turn.acts) more other))
              done.replied));
        }
      where
        only : (another : Message) → IsOwn begun turn another → another ≡ message
        only another its = (let both_are : Event.Serve another ∷ [] ≡ Event.Serve message ∷ [] = sym its.serves ∙ own.serves in cc)

    -- it does, or it does not
    serving : (message : Message) → served_request turn.acts ≡ Some message → (b : Bool) → is_own begun turn message ≡ b →
        HasTurn world other turn
    serving message served true own =
        asking message (own_is begun turn message served own)
        (ap (λ o. with_spare (spare_beside begun mapped o)) served
        ∙ ap (λ b. with_spare (cond b (with_first (Event.Serve (query_of message)) mapped.spare) mapped.spare)) own)
    serving message served false own =
        plain (Some message)
        (λ another its. absurd (let same = only another its in
        let wrong : false ≡ true = sym own ∙ is_own_there begun turn message (subst (IsOwn begun turn) same its) in cc))
        (ap (λ b. cond b (with_first (Event.Serve (query_of message)) mapped.spare) mapped.spare) own)
        (ap (λ o. with_spare (spare_beside begun mapped o)) served
        ∙ ap (λ b. with_spare (cond b (with_first (Event.Serve (query_of message)) mapped.spare) mapped.spare)) own)
      where
        only : (another : Message) → IsOwn begun turn another → another ≡ message
        only another its = (let both_are : Event.Serve another ∷ [] ≡ Event.Serve message ∷ [] =
            sym its.serves ∙ served_is turn.acts message served in cc)

    pub one_turn : HasTurn world other turn
    one_turn = go (served_request turn.acts) refl
      where
        go : (o : Option Message) → served_request turn.acts ≡ o → HasTurn world other turn
        go None e =
            plain None (λ message own. absurd (let wrong : None ≡ Some message = sym e ∙ ap served_request own.serves in cc)) refl
            (ap (λ o. with_spare (spare_beside begun mapped o)) e)
        go (Some message) e = serving message e (is_own begun turn message) refl
