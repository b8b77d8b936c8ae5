-- The turns in which members told a call their tags lie behind the turn in which its phase began.
use Rattle.std.proofs.Common.{◌≡◌, ℕ, suc, ◌<◌, inl, inr, List, [], ◌∷◌, ◌++◌, append_assoc, length}
use Rattle.std.proofs.Common.{sym, subst, ap, ◌∙◌}
use Rattle.tag.specs.declared.tag.Tag.{Tag}
use Rattle.layout.specs.Layout.{IsLawful, Layout}
use Rattle.bank.specs.declared.kind.Kind.TheVariants.{Query}
use Rattle.bank.specs.declared.reply.Answer.TheVariants as answer
use Rattle.mail.specs.declared.message.Body.TheVariants as body
use Rattle.mail.specs.declared.message.Message.{Message}
use Rattle.record.specs.Fragments.{Code}
use Rattle.open_calls.specs.OpenCalls.{NodeCall}
use Rattle.open_calls.specs.Queries.{ToldTag}
use Rattle.letter.specs.declared.telling.Telling.{Telling}
use Rattle.letter.specs.Tellings.{telling_of}
use Rattle.network.specs.Worlds.{World, known_layout, member_bank, opened_world}
use Rattle.network.specs.Events.{Event, IsOpen, happens, world_after}
use Rattle.network.specs.Premises.{MayHappenInTurn, WasSent}
use Rattle.told_replies.specs.Tellings.{world_of}
use Rattle.told_queries.specs.Courses.{Course, HasRoom, WasToldIn, events_of, run_of, turn_events, world_after_turns}
use Rattle.told_queries.specs.Laws.{HasToldTag, IsCourse, IsFirstReading}
use Rattle.told_queries.proofs.AskedTurnLemmas.{IsToMember, knows_later, of_phase}
use Rattle.told_queries.proofs.BegunCourseLemmas as way
use Rattle.told_queries.proofs.BesideLemmas.{IsSoFar}
use Rattle.told_queries.proofs.LastTakesLemmas as last
use Rattle.told_queries.proofs.RunLemmas.{may_first, may_second, reached_later, run_append}
use Rattle.told_queries.proofs.SentMessageLemmas.{run_sent}
use Rattle.told_queries.proofs.SentPhaseLemmas.{reached_orderly}
use Rattle.told_queries.proofs.SplitCourseLemmas.{IsBehind, Lies, events_append, lies}
use Rattle.told_queries.proofs.StayingCallLemmas.{so_far_until}
use Rattle.told_queries.proofs.TurnStepLemmas.{query_reply}
use Rattle.told_queries.proofs.UnsetPointerLemmas.{HasUnset, unset_before}

-- a request that a turn serves was sent before the turn
serve_sent : (fragment : Code) (course : Course) (request : Message) (telling : Telling) → IsCourse fragment course →
    (was : WasToldIn fragment course request telling) → WasSent (world_after_turns fragment course.files was.before) request
serve_sent fragment course request telling is was =
    (may_second fragment (events_of was.before) (Event.Serve request ∷ (was.turn.spare ++ events_of was.after))
    (opened_world course.files) (subst (λ events. MayHappenInTurn fragment events (opened_world course.files)) all is.may)).1.network
  where
    all : events_of course.turns ≡ events_of was.before ++ Event.Serve request ∷ (was.turn.spare ++ events_of was.after)
    all =
        ap events_of was.split ∙ events_append was.before (was.turn ∷ was.after)
        ∙ ap (λ acts. events_of was.before ++ ((acts ++ was.turn.spare) ++ events_of was.after)) was.serves

module _ (fragment : Code) (course : Course) (call : NodeCall) (is : IsCourse fragment course)
    (open_there : IsOpen (world_of fragment (run_of course)) call.id call) (first : IsFirstReading call)
    (room : HasRoom fragment course call) where
  abbrev begun_world : World
  begun_world = way.begun_world fragment course call is open_there first room

  abbrev before_world : World
  before_world = way.before_world fragment course call is open_there first room

  abbrev later_world : World
  later_world = way.later_world fragment course call is open_there first room

  abbrev rest : List Event
  rest = way.rest fragment course call is open_there first room

  -- where the member told its tag
  abbrev pub Behind : (told : ToldTag) → HasToldTag fragment course call told → Type 0
  Behind told has = IsBehind room.before room.turn room.after has.was.before has.was.turn has.was.after

  pub is_behind : (told : ToldTag) (has : HasToldTag fragment course call told) → Behind told has
  is_behind told has =
      go (lies room.before room.turn room.after has.was.before has.was.turn has.was.after (sym room.split ∙ has.was.split))
    where
      was : WasSent (world_after_turns fragment course.files has.was.before) has.request
      was = serve_sent fragment course has.request has.telling is has.was

      sent_earlier : WasSent before_world has.request → ⊥
      sent_earlier sent = way.not_before fragment course call is open_there first room has.request sent has.same_call has.same_phase

      go : Lies room.before room.turn room.after has.was.before has.was.turn has.was.after → Behind told has
      go (inl before) =
          absurd (sent_earlier (subst (λ w. WasSent w has.request)
          (sym (ap (λ turns. world_after_turns fragment course.files turns) before.split
          ∙ ap (λ events. world_after fragment events (opened_world course.files))
          (events_append has.was.before (has.was.turn ∷ before.middle))
          ∙ run_append fragment (events_of has.was.before) (events_of (has.was.turn ∷ before.middle)) (opened_world course.files)))
          (run_sent fragment (events_of (has.was.turn ∷ before.middle)) (world_after_turns fragment course.files has.was.before)
          has.request was)))
      go (inr (inl same)) =
          absurd (sent_earlier (subst (λ turns. WasSent (world_after_turns fragment course.files turns) has.request) same.same_before was))
      go (inr (inr behind)) = behind

  -- The turn

  module _ (layout : Layout) (lawful : IsLawful layout)
      (known : known_layout (world_of fragment (run_of course)) call.node call.phase.position ≡ layout) (told : ToldTag)
      (has : HasToldTag fragment course call told) where
    abbrev behind : Behind told has
    behind = is_behind told has

    abbrev middle : List Event
    middle = room.turn.spare ++ events_of behind.middle

    abbrev then_world : World
    then_world = world_after fragment (events_of behind.middle) later_world

    abbrev after_that : List Event
    after_that = has.was.turn.spare ++ events_of has.was.after

    rest_is : rest ≡ middle ++ Event.Serve has.request ∷ after_that
    rest_is =
        ap (λ turns. room.turn.spare ++ events_of turns) behind.after_is
        ∙ ap (λ events. room.turn.spare ++ events) (events_append behind.middle (has.was.turn ∷ has.was.after))
        ∙ ap (λ acts. room.turn.spare ++ (events_of behind.middle ++ ((acts ++ has.was.turn.spare) ++ events_of has.was.after)))
        has.was.serves
        ∙ sym (append_assoc room.turn.spare (events_of behind.middle) (Event.Serve has.request ∷ after_that))

    may : MayHappenInTurn fragment (middle ++ Event.Serve has.request ∷ after_that) begun_world
    may =
        subst (λ events. MayHappenInTurn fragment events begun_world) rest_is
        (way.may_rest fragment course call is open_there first room)

    may_middle : MayHappenInTurn fragment middle begun_world
    may_middle = may_first fragment middle (Event.Serve has.request ∷ after_that) begun_world may

    may_serve : MayHappenInTurn fragment (Event.Serve has.request ∷ after_that) (world_after fragment middle begun_world)
    may_serve = may_second fragment middle (Event.Serve has.request ∷ after_that) begun_world may

    then_is : world_after fragment middle begun_world ≡ then_world
    then_is = run_append fragment room.turn.spare (events_of behind.middle) begun_world

    pub world_is : world_after_turns fragment course.files has.was.before ≡ then_world
    world_is =
        ap (λ turns. world_after_turns fragment course.files turns) behind.before_is
        ∙ ap (λ events. world_after fragment events (opened_world course.files))
        (events_append room.before (room.turn ∷ behind.middle))
        ∙ run_append fragment (events_of room.before) (events_of (room.turn ∷ behind.middle)) (opened_world course.files)
        ∙ run_append fragment (turn_events room.turn) (events_of behind.middle) before_world
        ∙ ap (world_after fragment (events_of behind.middle)) (run_append fragment room.turn.acts room.turn.spare before_world)

    so_far : IsSoFar (way.begun fragment course call is open_there first room) (world_after fragment middle begun_world)
    so_far =
        so_far_until fragment (way.begun fragment course call is open_there first room) first.kind middle
        (Event.Serve has.request ∷ after_that) begun_world
        (reached_orderly fragment begun_world (way.reached_begun fragment course call is open_there first room)) may
        (way.from fragment course call is open_there first room)
        (subst (λ events. IsSoFar (way.begun fragment course call is open_there first room) (world_after fragment events begun_world))
        rest_is (way.until fragment course call is open_there first room))

    pub to_member : IsToMember fragment (way.begun fragment course call is open_there first room) layout has.request
    to_member =
        of_phase fragment (way.begun fragment course call is open_there first room) layout (world_after fragment middle begun_world)
        has.request
        (reached_later fragment begun_world middle (way.reached_begun fragment course call is open_there first room) may_middle) so_far
        (knows_later fragment call.phase.position layout middle begun_world may_middle
        (way.knows fragment course call is open_there first room layout lawful known)) may_serve.1.network has.same_call has.same_phase

    pub within : told.member < length layout.members
    within = subst (λ m. m < length layout.members) has.same_member to_member.within

    -- the pointer was unset as the phase began
    pub unset : HasUnset begun_world call.phase.position told.member
    unset =
        subst (λ m. HasUnset begun_world call.phase.position m) has.same_member
        (subst (λ p. HasUnset begun_world p has.request.member) to_member.at
        (unset_before fragment begun_world (middle ++ Event.Serve has.request ∷ []) may_serving has.request.position
        has.request.member served_unset))
      where
        may_serving : MayHappenInTurn fragment (middle ++ Event.Serve has.request ∷ []) begun_world
        may_serving =
            may_first fragment (middle ++ Event.Serve has.request ∷ []) after_that begun_world
            (subst (λ events. MayHappenInTurn fragment events begun_world)
            (sym (append_assoc middle (Event.Serve has.request ∷ []) after_that)) may)

        served_is : world_after fragment (middle ++ Event.Serve has.request ∷ []) begun_world
            ≡ happens fragment (world_after_turns fragment course.files has.was.before) (Event.Serve has.request)
        served_is =
            run_append fragment middle (Event.Serve has.request ∷ []) begun_world
            ∙ ap (λ w. happens fragment w (Event.Serve has.request)) (then_is ∙ sym world_is)

        served_unset : HasUnset (world_after fragment (middle ++ Event.Serve has.request ∷ []) begun_world) has.request.position
            has.request.member
        served_unset =
            subst (λ w. HasUnset w has.request.position has.request.member) (sym served_is)
            (ap (λ (t : Telling). t.status) has.was.tells ∙ has.status)

    -- the reply to the query says what was told
    pub reply_is : query_reply (happens fragment then_world (Event.Serve has.request)) has.request ≡ last.query_reply call told
    reply_is =
        ap (λ tag. made has.request.call has.request.phase has.request.position has.request.member tag)
        (ap (λ w. let served = happens fragment w (Event.Serve has.request) in
        (telling_of (member_bank served has.request.position has.request.member)).greatest) (sym world_is)
        ∙ ap (λ (t : Telling). t.greatest) has.was.tells ∙ has.greatest)
        ∙ ap (λ c. made c has.request.phase has.request.position has.request.member told.tag) has.same_call
        ∙ ap (λ n. made call.id n has.request.position has.request.member told.tag) has.same_phase
        ∙ ap (λ p. made call.id call.phase.number p has.request.member told.tag) to_member.at
        ∙ ap (λ m. made call.id call.phase.number call.phase.position m told.tag) has.same_member
      where
        made : (id phase position member : ℕ) → Tag → Message
        made id phase position member tag = record {
          call = id;
          phase = suc phase;
          position = position;
          member = member;
          body = body.Reply Query (record { step = 0; answer = answer.Greatest tag });
        }
