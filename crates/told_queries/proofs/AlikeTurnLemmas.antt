-- A turn beside another is alike.
use Rattle.std.proofs.Common.{◌≡◌, ◌&&◌, ℕ, Bool, true, false, cond, eqb, List, [], ◌∷◌, ◌++◌, length, map, Option, None, Some}
use Rattle.std.proofs.Common.{refl, ap, ◌∙◌}
use Rattle.std.proofs.lemmas.List.{length-map}
use Rattle.mail.specs.declared.message.Message.{Message}
use Rattle.open_calls.specs.OpenCalls.{NodeCall}
use Rattle.network.specs.Events.{Event}
use Rattle.told_queries.specs.Courses.{Turn}
use Rattle.told_queries.proofs.AlikeLemmas.{AreAlike, IsAlike}
use Rattle.told_queries.proofs.BesideEventLemmas.{beside_event}
use Rattle.told_queries.proofs.CutLemmas.{waits_same}
use Rattle.told_queries.proofs.RunLemmas.{not_the_same}
use Rattle.told_queries.proofs.TurnLemmas.{is_own, query_of, served_request, spare_beside, turn_beside, with_first}

-- a turn is like itself
pub alike_same : (id : ℕ) (turns : List Turn) → AreAlike id turns turns
alike_same id [] = tt
alike_same id (turn ∷ turns) = (
  record {
    call = refl;
    acts = refl;
    spare = refl;
    serves = λ message is. is;
    served = λ message is. is;
    reserve = λ apart world are. refl;
  },
  alike_same id turns,
)

pub alike_append : (id : ℕ) (first second others more : List Turn) → AreAlike id first others → AreAlike id second more →
    AreAlike id (first ++ second) (others ++ more)
alike_append id [] second [] more a b = b
alike_append id (turn ∷ first) second (other ∷ others) more a b = (a.0, alike_append id first second others more a.1 b)
alike_append id [] second (other ∷ others) more a b = absurd a
alike_append id (turn ∷ first) second [] more a b = absurd a

module _ (begun asking : NodeCall) where
  abbrev next_of : Event → Event
  next_of event = beside_event asking event

  long_first : (event : Event) (events : List Event) → length (with_first event events) ≡ length events
  long_first event [] = refl
  long_first event (first ∷ rest) = refl

  long_spare : (turn : Turn) (o : Option Message) → length (spare_beside begun turn o) ≡ length turn.spare
  long_spare turn None = refl
  long_spare turn (Some message) = go (is_own begun turn message)
    where
      go : (b : Bool) →
          length (cond b (with_first (Event.Serve (query_of message)) turn.spare) turn.spare) ≡ length turn.spare
      go true = long_first (Event.Serve (query_of message)) turn.spare
      go false = refl

  -- only a request that is served has the same beside it
  serves_back : (acts : List Event) (message : Message) → map next_of acts ≡ Event.Serve message ∷ [] → acts ≡ Event.Serve message ∷ []
  serves_back [] message e = absurd (cc)
  serves_back (Event.Restart node banks calls ∷ events) message e = absurd (cc)
  serves_back (Event.Serve other ∷ []) message e = e
  serves_back (Event.BeginRead node id ∷ events) message e = absurd (cc)
  serves_back (Event.BeginWrite node id value ∷ events) message e = absurd (cc)
  serves_back (Event.BeginMove node id layout ∷ events) message e = absurd (cc)
  serves_back (Event.Advance id ∷ events) message e = absurd (cc)
  serves_back (Event.Take other ∷ events) message e = absurd (cc)
  serves_back (Event.Settle id value ∷ events) message e = absurd (cc)
  serves_back (Event.Answer id ∷ events) message e = absurd (cc)
  serves_back (Event.GiveUp id ∷ events) message e = absurd (cc)
  serves_back (Event.Serve other ∷ event ∷ events) message e = absurd (cc)

  -- a turn that is not about the call keeps what it has in reserve
  reserve_other : (turn : Turn) → (turn.call ≡ begun.id → ⊥) → (o : Option Message) → spare_beside begun turn o ≡ turn.spare
  reserve_other turn apart None = refl
  reserve_other turn apart (Some message) =
      ap (λ b. cond (b && (eqb message.call begun.id && eqb message.phase begun.phase.number))
      (with_first (Event.Serve (query_of message)) turn.spare) turn.spare) (not_the_same turn.call begun.id apart)

  alike_turn : (turn : Turn) → IsAlike begun.id turn (turn_beside next_of begun turn)
  alike_turn turn = record {
    call = refl;
    acts = length-map turn.acts next_of;
    spare = long_spare (record turn { spare = map next_of turn.spare }) (served_request turn.acts) ∙ length-map turn.spare next_of;
    serves = λ message is. ap (map next_of) is;
    served = λ message is. serves_back turn.acts message is;
    reserve = λ apart world are.
        reserve_other (record turn { spare = map next_of turn.spare }) apart (served_request turn.acts)
        ∙ waits_same asking world turn.spare are;
  }

  pub alike_turns : (turns : List Turn) → AreAlike begun.id turns (map (turn_beside next_of begun) turns)
  alike_turns [] = tt
  alike_turns (turn ∷ turns) = (alike_turn turn, alike_turns turns)
