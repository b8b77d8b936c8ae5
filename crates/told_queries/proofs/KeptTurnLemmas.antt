-- What was told in the turns of one of two runs, and the room of other calls, is so in the other, also after more turns.
use Rattle.std.proofs.Common.{◌≡◌, ℕ, ◌+◌, ◌<◌, List, [], ◌∷◌, ◌++◌, length, get_or, IsSome, Some, slice_get, refl, sym, subst, ap, ◌∙◌}
use Rattle.std.proofs.Common.{append_assoc, arith, length-append}
use Rattle.std.specs.List.{AllByRecursion}
use Rattle.layout.specs.Layout.{Layout}
use Rattle.bank.specs.Bank.{Bank, empty_piece}
use Rattle.mail.specs.declared.message.Message.{Message}
use Rattle.record.specs.Fragments.{Code}
use Rattle.record.specs.Records.{no_bank}
use Rattle.record.specs.Sending.{requests}
use Rattle.open_calls.specs.OpenCalls.{NodeCall}
use Rattle.open_calls.proofs.ListLemmas.{all_weaker}
use Rattle.letter.specs.Tellings.{telling_of}
use Rattle.letter.specs.declared.telling.Telling.{Telling}
use Rattle.network.specs.Worlds.{ClusterFile, World, opened_world}
use Rattle.network.specs.Events.{Event, happens, world_after}
use Rattle.starts.specs.Reading.{HasSent}
use Rattle.told_queries.specs.Courses.{AreWaits, HasRoom, IsWait, ServesLeaveRoom, Turn, WasToldIn, as_begun, events_of}
use Rattle.told_queries.specs.Courses.{turn_events, world_after_turns}
use Rattle.told_queries.proofs.AlikeLemmas.{AreAlike, IsAlike}
use Rattle.told_queries.proofs.KeptEarlyLemmas.{known_same, layout_same}
use Rattle.told_queries.proofs.ReplayLemmas.{IsSameBut, Replays, replays_end, replays_start}
use Rattle.told_queries.proofs.SplitCourseLemmas.{events_append}

-- Turns

-- a turn of the one list has one of the other at its place
pub record HasPlace (id : ℕ) (before : List Turn) (turn : Turn) (after others : List Turn) : Type 0 where
  pub start : List Turn
  pub other : Turn
  pub rest : List Turn
  pub split : others ≡ start ++ other ∷ rest
  pub first : AreAlike id before start
  pub one : IsAlike id turn other
  pub last : AreAlike id after rest

pub has_place : (id : ℕ) (before : List Turn) (turn : Turn) (after others : List Turn) →
    AreAlike id (before ++ turn ∷ after) others → HasPlace id before turn after others
has_place id [] turn after [] alike = absurd alike
has_place id [] turn after (other ∷ others) alike =
    record { start = []; other = other; rest = others; split = refl; first = tt; one = alike.0; last = alike.1 }
has_place id (earlier ∷ before) turn after [] alike = absurd alike
has_place id (earlier ∷ before) turn after (other ∷ others) alike =
    let it = has_place id before turn after others alike.1 in record {
      start = other ∷ it.start;
      other = it.other;
      rest = it.rest;
      split = ap (λ l. other ∷ l) it.split;
      first = (alike.0, it.first);
      one = it.one;
      last = it.last;
    }

turn_length : (id : ℕ) (turn other : Turn) → IsAlike id turn other → length (turn_events other) ≡ length (turn_events turn)
turn_length id turn other alike =
    length-append other.acts other.spare
    ∙ (ap (λ n. n + length other.spare) alike.acts ∙ ap (λ n. length turn.acts + n) alike.spare)
    ∙ sym (length-append turn.acts turn.spare)

turns_length : (id : ℕ) (turns others : List Turn) → AreAlike id turns others →
    length (events_of others) ≡ length (events_of turns)
turns_length id [] [] alike = refl
turns_length id [] (other ∷ others) alike = absurd alike
turns_length id (turn ∷ turns) [] alike = absurd alike
turns_length id (turn ∷ turns) (other ∷ others) alike =
    length-append (turn_events other) (events_of others)
    ∙ (ap (λ n. n + length (events_of others)) (turn_length id turn other alike.0)
    ∙ ap (λ n. length (turn_events turn) + n) (turns_length id turns others alike.1))
    ∙ sym (length-append (turn_events turn) (events_of turns))

-- Two runs side by side, up to a place and from there on

pub record AreReplays (fragment : Code) (id : ℕ) (first second : List Event) (world : World) (others more : List Event) (new : World)
    : Type 0 where
  pub until : Replays fragment id first world others new
  pub later : Replays fragment id second (world_after fragment first world) more (world_after fragment others new)

pub replays_split : (fragment : Code) (id : ℕ) (first second : List Event) (world : World) (others more : List Event) (new : World) →
    length others ≡ length first → Replays fragment id (first ++ second) world (others ++ more) new →
    AreReplays fragment id first second world others more new
replays_split fragment id [] second world [] more new same replays =
    record { until = replays_start fragment id second world more new replays; later = replays }
replays_split fragment id [] second world (other ∷ others) more new same replays = absurd (cc)
replays_split fragment id (event ∷ first) second world [] more new same replays = absurd (cc)
replays_split fragment id (event ∷ first) second world (other ∷ others) more new same replays =
    let it = replays_split fragment id first second (happens fragment world event) others more (happens fragment new other)
    (omega (arith, same)) replays.2 in record { until = (replays.0, replays.1, it.until); later = it.later }

-- Worlds that are the same but for one call

waits_kept : (id : ℕ) (world new : World) → IsSameBut id world new → (events : List Event) → AreWaits world events →
    AreWaits new events
waits_kept id world new same =
    all_weaker (IsWait world) (IsWait new) (λ event wait. (wait.0, wait.1, same.closed wait.0 wait.2))

asked_kept : (id : ℕ) (world new : World) → IsSameBut id world new → (call : NodeCall) → HasSent world call → HasSent new call
asked_kept id world new same call has =
    let its = layout_same id world new same call.node call.phase.position in
    λ place message at. same.sent message (has place message
    (subst (λ (layout : Layout). slice_get (requests call.id call.phase.number call.phase.kind call.phase.position layout.members
    0 empty_piece) place ≡ Some message) its at))

-- One turn in both runs

module _ (fragment : Code) (id : ℕ) (turn other : Turn) (after rest : List Turn) (world new : World)
    (alike : IsAlike id turn other)
    (replays : Replays fragment id (events_of (turn ∷ after)) world (events_of (other ∷ rest)) new) where
  halves : AreReplays fragment id (turn_events turn) (events_of after) world (turn_events other) (events_of rest) new
  halves = replays_split fragment id (turn_events turn) (events_of after) world (turn_events other) (events_of rest) new
      (turn_length id turn other alike) replays

  -- after the turn
  pub turn_later : Replays fragment id (events_of after) (world_after fragment (turn_events turn) world)
      (events_of rest) (world_after fragment (turn_events other) new)
  turn_later = halves.later

  -- after what happened in it
  pub turn_acted : IsSameBut id (world_after fragment turn.acts world) (world_after fragment other.acts new)
  turn_acted =
      replays_end fragment id turn.acts world other.acts new
      (replays_split fragment id turn.acts turn.spare world other.acts other.spare new alike.acts halves.until).until

  -- after a request that it serves
  pub turn_served : (request : Message) → turn.acts ≡ Event.Serve request ∷ [] →
      IsSameBut id (happens fragment world (Event.Serve request)) (happens fragment new (Event.Serve request))
  turn_served request serves =
      subst (λ acts. IsSameBut id (happens fragment world (Event.Serve request)) (world_after fragment acts new))
      (alike.serves request serves)
      (subst (λ acts. IsSameBut id (world_after fragment acts world) (world_after fragment other.acts new)) serves turn_acted)

-- Turns that leave room

-- none of these turns serves just one request
abbrev pub ServeNone : List Turn → Type 0
ServeNone more = AllByRecursion (λ (turn : Turn). (message : Message) → turn.acts ≡ Event.Serve message ∷ [] → ⊥) more

room_after : (fragment : Code) (call number : ℕ) (world : World) (more : List Turn) → ServeNone more →
    ServesLeaveRoom fragment call number world more
room_after fragment call number world [] none = tt
room_after fragment call number world (turn ∷ more) none = (
  λ request about serves same_call same_phase. absurd (none.0 request serves),
  room_after fragment call number (world_after fragment (turn_events turn) world) more none.1,
)

room_kept : (fragment : Code) (id call number : ℕ) → (call ≡ id → ⊥) → (more : List Turn) → ServeNone more →
    (turns others : List Turn) (world new : World) → AreAlike id turns others →
    Replays fragment id (events_of turns) world (events_of others) new →
    ServesLeaveRoom fragment call number world turns → ServesLeaveRoom fragment call number new (others ++ more)
room_kept fragment id call number apart more none [] [] world new alike replays room = room_after fragment call number new more none
room_kept fragment id call number apart more none [] (other ∷ others) world new alike replays room = absurd alike
room_kept fragment id call number apart more none (turn ∷ turns) [] world new alike replays room = absurd alike
room_kept fragment id call number apart more none (turn ∷ turns) (other ∷ others) world new alike replays room = (
  λ request about serves same_call same_phase.
      let its : turn.call ≡ call = sym alike.0.call ∙ about in
      let served = alike.0.served request serves in
      let had = room.0 request its served same_call same_phase in (
        subst (λ n. 0 < n) (sym alike.0.spare) had.0,
        subst (λ events. AreWaits (happens fragment new (Event.Serve request)) events)
            (sym (alike.0.reserve (λ is. apart (sym its ∙ is)) (happens fragment world (Event.Serve request)) had.1))
            (waits_kept id (happens fragment world (Event.Serve request)) (happens fragment new (Event.Serve request))
            (turn_served fragment id turn other turns others world new alike.0 replays request served) turn.spare had.1),
      ),
  room_kept fragment id call number apart more none turns others (world_after fragment (turn_events turn) world)
      (world_after fragment (turn_events other) new) alike.1
      (turn_later fragment id turn other turns others world new alike.0 replays) room.1,
)

-- The whole runs

module _ (fragment : Code) (id : ℕ) (files : ℕ → ClusterFile) (turns others more : List Turn)
    (alike : AreAlike id turns others)
    (replays : Replays fragment id (events_of turns) (opened_world files) (events_of others) (opened_world files))
    (none : ServeNone more) where
  -- a turn in both runs, with the worlds before it
  record IsAtTurn (before : List Turn) (turn : Turn) (after : List Turn) : Type 0 where
    pub place : HasPlace id before turn after others
    pub split : others ++ more ≡ place.start ++ place.other ∷ (place.rest ++ more)
    pub until : IsSameBut id (world_after_turns fragment files before) (world_after_turns fragment files place.start)
    pub later : Replays fragment id (events_of (turn ∷ after)) (world_after_turns fragment files before)
        (events_of (place.other ∷ place.rest)) (world_after_turns fragment files place.start)

  at_turn : (before : List Turn) (turn : Turn) (after : List Turn) → turns ≡ before ++ turn ∷ after → IsAtTurn before turn after
  at_turn before turn after is =
      let opened = opened_world files in
      let place = has_place id before turn after others (subst (λ l. AreAlike id l others) is alike) in
      let halves = replays_split fragment id (events_of before) (events_of (turn ∷ after)) opened (events_of place.start)
      (events_of (place.other ∷ place.rest)) opened (turns_length id before place.start place.first)
      (subst (λ l. Replays fragment id (events_of before ++ events_of (turn ∷ after)) opened l opened)
      (ap events_of place.split ∙ events_append place.start (place.other ∷ place.rest))
      (subst (λ l. Replays fragment id l opened (events_of others) opened)
      (ap events_of is ∙ events_append before (turn ∷ after)) replays)) in
      record {
        place = place;
        split = ap (λ l. l ++ more) place.split ∙ append_assoc place.start (place.other ∷ place.rest) more;
        until = replays_end fragment id (events_of before) opened (events_of place.start) opened halves.until;
        later = halves.later;
      }

  pub still_told : (request : Message) (telling : Telling) →
      WasToldIn fragment (record { files = files; turns = turns }) request telling →
      WasToldIn fragment (record { files = files; turns = others ++ more }) request telling
  still_told request telling told =
      let it = at_turn told.before told.turn told.after told.split in
      let place = it.place in
      let same = turn_served fragment id told.turn place.other told.after place.rest (world_after_turns fragment files told.before)
      (world_after_turns fragment files place.start) place.one it.later request told.serves in
      record {
        before = place.start;
        turn = place.other;
        after = place.rest ++ more;
        split = it.split;
        about = place.one.call ∙ told.about;
        serves = place.one.serves request told.serves;
        tells = ap (λ (banks : List (List Bank)). telling_of
            (get_or (get_or banks request.position []) request.member no_bank)) same.banks ∙ told.tells;
      }

  pub still_room : (another : NodeCall) → (another.id ≡ id → ⊥) →
      HasRoom fragment (record { files = files; turns = turns }) another →
      HasRoom fragment (record { files = files; turns = others ++ more }) another
  still_room another apart has =
      let it = at_turn has.before has.turn has.after has.split in
      let place = it.place in
      let world = world_after_turns fragment files has.before in
      let new = world_after_turns fragment files place.start in
      let acted = world_after fragment has.turn.acts world in
      let acted_new = world_after fragment place.other.acts new in
      let same = turn_acted fragment id has.turn place.other has.after place.rest world new place.one it.later in
      record {
        before = place.start;
        turn = place.other;
        after = place.rest ++ more;
        split = it.split;
        about = place.one.call ∙ has.about;
        fresh = λ earlier open_there. has.fresh earlier (sym (it.until.others another.id apart) ∙ open_there);
        begun = same.others another.id apart ∙ has.begun;
        placed = subst (λ layouts. IsSome (slice_get layouts another.phase.position)) (sym (known_same id acted acted_new same 0))
            has.placed;
        asked = asked_kept id acted acted_new same (as_begun another) has.asked;
        waits = subst (λ events. AreWaits acted_new events) (sym (place.one.reserve (λ is. apart (sym has.about ∙ is)) acted has.waits))
            (waits_kept id acted acted_new same has.turn.spare has.waits);
        enough = place.one.spare ∙ has.enough;
        serves = room_kept fragment id another.id another.phase.number apart more none has.after place.rest
            (world_after fragment (turn_events has.turn) world) (world_after fragment (turn_events place.other) new) place.last
            (turn_later fragment id has.turn place.other has.after place.rest world new place.one it.later) has.serves;
      }
