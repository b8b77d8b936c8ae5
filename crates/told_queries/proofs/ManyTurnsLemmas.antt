-- All turns behind that of the call, beside those of the other run, with the replies to the query.
use Rattle.std.proofs.Common.{◌≡◌, ◌<◌, List, [], ◌∷◌, ◌++◌, length, map, sym, subst, subst₂, ap, ◌∙◌}
use Rattle.layout.specs.Layout.{Layout}
use Rattle.mail.specs.declared.message.Message.{Message}
use Rattle.record.specs.Fragments.{Code}
use Rattle.open_calls.specs.OpenCalls.{NodeCall}
use Rattle.network.specs.Worlds.{World}
use Rattle.network.specs.Events.{Event, happens, world_after}
use Rattle.network.specs.Premises.{MayHappenInTurn, WasSent}
use Rattle.told_queries.specs.Courses.{AreWaits, ServesLeaveRoom, Turn, events_of, turn_events}
use Rattle.told_queries.proofs.AskedTurnLemmas.{HasAsked, Knows, knows_later, of_phase, query_is}
use Rattle.told_queries.proofs.BesideLemmas.{IsBeside, querying}
use Rattle.told_queries.proofs.RunLemmas.{run_append}
use Rattle.told_queries.proofs.SentMessageLemmas.{run_sent}
use Rattle.told_queries.proofs.TurnLemmas.{AreSteps, append_steps, no_steps, turn_beside}
use Rattle.told_queries.proofs.TurnStepLemmas.{HasSteps, IsKept, kept_first, kept_second, query_reply}
use Rattle.told_queries.proofs.TurnsBesideLemmas.{HasTurn, IsOwn, MayAsk, one_turn}

module _ (fragment : Code) (begun : NodeCall) (layout : Layout) (next_of : Event → Event)
    (steps : HasSteps fragment begun layout next_of) where
  abbrev Kept : World → List Event → Type 0
  Kept world events = IsKept fragment begun layout next_of steps world events

  abbrev pub beside_all : List Turn → List Turn
  beside_all turns = map (turn_beside next_of begun) turns

  -- the turns have such beside them, and wherever one serves a request of the phase, the query was answered in the end
  pub record HasTurns (world other : World) (turns : List Turn) : Type 0 where
    pub does : AreSteps fragment begun layout world other (events_of turns) (events_of (beside_all turns))
    pub replied : (before : List Turn) (turn : Turn) (after : List Turn) (message : Message) → turns ≡ before ++ turn ∷ after →
        IsOwn begun turn message → WasSent (world_after fragment (events_of (beside_all turns)) other)
        (query_reply (happens fragment (world_after fragment (events_of before) world) (Event.Serve message)) message)

  -- a turn that serves a request of the phase may serve the query too
  may_ask : (world other : World) (turn : Turn) → Kept world (turn_events turn) → Knows world begun.phase.position layout →
      HasAsked fragment begun layout other →
      ((message : Message) → IsOwn begun turn message →
      (0 < length turn.spare) × AreWaits (happens fragment world (Event.Serve message)) turn.spare) →
      MayAsk fragment begun layout next_of steps world other turn
  may_ask world other turn kept knows asked room = record {
    room = room;
    sent = λ message own.
        let may = subst (λ acts. MayHappenInTurn fragment (acts ++ turn.spare) world) own.serves kept.may in
        let is = of_phase fragment begun layout world message kept.reached kept.from knows may.1.network own.same_call own.same_phase in
        subst (WasSent other) (query_is fragment begun layout message own.same_call own.same_phase is)
        (asked message.member is.within);
  }

  pub many_turns : (turns : List Turn) (world other : World) → IsBeside (querying begun layout) world other →
      Kept world (events_of turns) → Knows world begun.phase.position layout → HasAsked fragment begun layout other →
      ServesLeaveRoom fragment begun.id begun.phase.number world turns → HasTurns world other turns
  many_turns [] world other beside kept knows asked room = record {
    does = no_steps fragment begun layout world other beside;
    replied = λ before turn after message split own. absurd (none before turn after split);
  }
    where
      none : (before : List Turn) (turn : Turn) (after : List Turn) → [] ≡ before ++ turn ∷ after → ⊥
      none [] turn after e = cc
      none (first ∷ before) turn after e = cc
  many_turns (turn ∷ turns) world other beside kept knows asked room =
      let here = kept_first fragment begun layout next_of steps (turn_events turn) (events_of turns) world kept in
      let one = one_turn fragment begun layout next_of steps world other turn beside here
      (may_ask world other turn here knows asked
      (λ message own. room.0 message own.about own.serves own.same_call own.same_phase)) in
      let next = world_after fragment (turn_events turn) world in
      let next_other = world_after fragment (turn_events (turn_beside next_of begun turn)) other in
      more_turns turn turns world other one
      (many_turns turns next next_other one.does.beside
      (kept_second fragment begun layout next_of steps (turn_events turn) (events_of turns) world kept)
      (knows_later fragment begun.phase.position layout (turn_events turn) world here.may knows)
      (λ member within. run_sent fragment (turn_events (turn_beside next_of begun turn)) other _ (asked member within))
      room.1)
    where
      more_turns : (turn : Turn) (turns : List Turn) (world other : World) →
          HasTurn fragment begun layout next_of steps world other turn →
          HasTurns (world_after fragment (turn_events turn) world)
          (world_after fragment (turn_events (turn_beside next_of begun turn)) other) turns →
          HasTurns world other (turn ∷ turns)
      more_turns turn turns world other one rest = record {
        does = append_steps fragment begun layout (turn_events turn) (events_of turns)
            (turn_events (turn_beside next_of begun turn)) (events_of (beside_all turns)) world other one.does rest.does;
        replied = replied;
      }
        where
          mine : List Event
          mine = turn_events (turn_beside next_of begun turn)

          end : world_after fragment (events_of (beside_all turns)) (world_after fragment mine other)
              ≡ world_after fragment (mine ++ events_of (beside_all turns)) other
          end = sym (run_append fragment mine (events_of (beside_all turns)) other)

          replied : (before : List Turn) (that : Turn) (after : List Turn) (message : Message) →
              turn ∷ turns ≡ before ++ that ∷ after → IsOwn begun that message →
              WasSent (world_after fragment (mine ++ events_of (beside_all turns)) other)
              (query_reply (happens fragment (world_after fragment (events_of before) world) (Event.Serve message)) message)
          replied [] that after message split own =
              let same : that ≡ turn = cc in
              subst (λ w. WasSent w (query_reply (happens fragment world (Event.Serve message)) message)) end
              (run_sent fragment (events_of (beside_all turns)) (world_after fragment mine other) _
              (one.replied message (subst (λ t. IsOwn begun t message) same own)))
          replied (first ∷ before) that after message split own =
              let same : first ≡ turn = cc in
              let later : turns ≡ before ++ that ∷ after = cc in
              subst₂ (λ w v. WasSent w (query_reply (happens fragment v (Event.Serve message)) message)) end
              (sym (run_append fragment (turn_events turn) (events_of before) world)
              ∙ ap (λ t. world_after fragment (turn_events t ++ events_of before) world) (sym same))
              (rest.replied before that after message later own)
