-- A course in which a call was told tags in its first reading: the worlds on the way.
use Rattle.std.proofs.Common.{◌≡◌, ◌⊎◌, ℕ, ◌<◌, ◌≤◌, inl, inr, List, [], ◌∷◌, ◌++◌, append_assoc, get_or, Option, Some, None}
use Rattle.std.proofs.Common.{IsSome, slice_get, refl, sym, subst, ap, ◌∙◌, arith}
use Rattle.std.proofs.lemmas.Bool.{cases_lt}
use Rattle.std.proofs.lemmas.Option.{get_or_from_slice_get}
use Rattle.layout.specs.Layout.{IsLawful, Layout}
use Rattle.mail.specs.declared.message.Message.{Message}
use Rattle.record.specs.Fragments.{Code}
use Rattle.record.specs.Records.{no_layout}
use Rattle.open_calls.specs.OpenCalls.{NodeCall}
use Rattle.network.specs.Worlds.{World, known_layout, known_layouts, opened_world}
use Rattle.network.specs.Events.{Event, IsOpen, happens, world_after}
use Rattle.network.specs.Laws.{IsReached}
use Rattle.network.specs.Premises.{MayHappenInTurn, WasSent}
use Rattle.network.proofs.OneFileLemmas.{layouts_known}
use Rattle.starts.proofs.FinalPointerLemmas.{kept, layouts_grow}
use Rattle.starts.proofs.TrueReplyLemmas.{IsKnown}
use Rattle.starts.proofs.TrueWorldLemmas.{reached_true}
use Rattle.told_replies.specs.Tellings.{world_of}
use Rattle.told_queries.specs.Courses.{Course, HasRoom, as_begun, events_of, run_of, world_after_turns}
use Rattle.told_queries.specs.Laws.{IsCourse, IsFirstReading}
use Rattle.told_queries.proofs.AskedTurnLemmas.{Knows}
use Rattle.told_queries.proofs.BesideLemmas.{IsSoFar}
use Rattle.told_queries.proofs.QuickPartLemmas.{some_member}
use Rattle.told_queries.proofs.RunLemmas.{may_first, may_second, reached_later, run_append}
use Rattle.told_queries.proofs.SentPhaseLemmas.{IsOrderly, known_sent, reached_orderly, sent_so_far}
use Rattle.told_queries.proofs.SplitCourseLemmas.{events_append}
use Rattle.told_queries.proofs.StayingCallLemmas.{HasPassed, not_passed, passed_later}

-- the greater of two numbers that differ
less : (a b : ℕ) → a ≤ b → (b ≡ a → ⊥) → a < b
less a b few apart = go (cases_lt a b)
  where
    go : (a < b) ⊎ (b ≤ a) → a < b
    go (inl is) = is
    go (inr back) = absurd (apart (omega (arith, few, back)))

-- a position keeps its layout
layout_later : (fragment : Code) (position : ℕ) (layout : Layout) (events : List Event) (world : World) →
    MayHappenInTurn fragment events world → slice_get (known_layouts world 0) position ≡ Some layout →
    slice_get (known_layouts (world_after fragment events world) 0) position ≡ Some layout
layout_later fragment position layout [] world may at = at
layout_later fragment position layout (event ∷ events) world may at =
    layout_later fragment position layout events (happens fragment world event) may.2
    (layouts_grow world (happens fragment world event) (kept fragment world event may.0 may.1) position layout at)

some_of : {A : Type 0} (o : Option A) → IsSome o → (x : A) × (o ≡ Some x)
some_of None is = absurd (cc)
some_of (Some x) is = (x, refl)

module _ (fragment : Code) (course : Course) (call : NodeCall) (is : IsCourse fragment course)
    (open_there : IsOpen (world_of fragment (run_of course)) call.id call) (first : IsFirstReading call)
    (room : HasRoom fragment course call) where
  abbrev pub opened : World
  opened = opened_world course.files

  abbrev pub begun : NodeCall
  begun = as_begun call

  abbrev pub before_world : World
  before_world = world_after_turns fragment course.files room.before

  abbrev pub begun_world : World
  begun_world = world_after fragment room.turn.acts before_world

  abbrev pub later_world : World
  later_world = world_after fragment room.turn.spare begun_world

  abbrev pub rest : List Event
  rest = room.turn.spare ++ events_of room.after

  pub all_events : events_of course.turns ≡ events_of room.before ++ (room.turn.acts ++ rest)
  all_events =
      ap events_of room.split ∙ events_append room.before (room.turn ∷ room.after)
      ∙ ap (λ l. events_of room.before ++ l) (append_assoc room.turn.acts room.turn.spare (events_of room.after))

  may_all : MayHappenInTurn fragment (events_of room.before ++ (room.turn.acts ++ rest)) opened
  may_all = subst (λ events. MayHappenInTurn fragment events opened) all_events is.may

  pub may_before : MayHappenInTurn fragment (events_of room.before) opened
  may_before = may_first fragment (events_of room.before) (room.turn.acts ++ rest) opened may_all

  pub reached_before : IsReached fragment before_world
  reached_before = record {
    files = course.files;
    one = is.one;
    lawful = is.lawful;
    events = events_of room.before;
    may = may_before;
    result = refl;
  }

  may_turn : MayHappenInTurn fragment (room.turn.acts ++ rest) before_world
  may_turn = may_second fragment (events_of room.before) (room.turn.acts ++ rest) opened may_all

  pub may_acts : MayHappenInTurn fragment room.turn.acts before_world
  may_acts = may_first fragment room.turn.acts rest before_world may_turn

  pub reached_begun : IsReached fragment begun_world
  reached_begun = reached_later fragment before_world room.turn.acts reached_before may_acts

  pub may_rest : MayHappenInTurn fragment rest begun_world
  may_rest = may_second fragment room.turn.acts rest before_world may_turn

  pub last_is : world_of fragment (run_of course) ≡ world_after fragment rest begun_world
  last_is =
      ap (λ events. world_after fragment events opened) all_events
      ∙ run_append fragment (events_of room.before) (room.turn.acts ++ rest) opened
      ∙ run_append fragment room.turn.acts rest before_world

  pub reached_last : IsReached fragment (world_after fragment rest begun_world)
  reached_last = reached_later fragment begun_world rest reached_begun may_rest

  pub from : IsSoFar begun begun_world
  from = record { call = begun; open_there = room.begun; same = refl }

  pub until : IsSoFar begun (world_after fragment rest begun_world)
  until = record { call = call; open_there = subst (λ w. IsOpen w call.id call) last_is open_there; same = refl }

  -- The layout

  module _ (layout : Layout) (lawful : IsLawful layout)
      (known : known_layout (world_of fragment (run_of course)) call.node call.phase.position ≡ layout) where
    placed : (found : Layout) × (slice_get (known_layouts begun_world 0) call.phase.position ≡ Some found)
    placed = some_of (slice_get (known_layouts begun_world 0) call.phase.position) room.placed

    same_layout : placed.0 ≡ layout
    same_layout =
        let last = world_after fragment rest begun_world in
        let there = layout_later fragment call.phase.position placed.0 rest begun_world may_rest placed.1 in
        sym (get_or_from_slice_get (known_layouts last 0) call.phase.position placed.0 no_layout there)
        ∙ ap (λ layouts. get_or layouts call.phase.position no_layout)
        (layouts_known last (reached_true fragment last reached_last).one call.node)
        ∙ ap (λ w. known_layout w call.node call.phase.position) (sym last_is) ∙ known

    pub knows : Knows begun_world call.phase.position layout
    knows = record {
      known = get_or_from_slice_get (known_layouts begun_world 0) call.phase.position placed.0 no_layout placed.1 ∙ same_layout;
      some = some_member layout lawful;
    }

    pub known_begun : known_layout begun_world call.node call.phase.position ≡ layout
    known_begun =
        ap (λ layouts. get_or layouts call.phase.position no_layout)
        (sym (layouts_known begun_world (reached_true fragment begun_world reached_begun).one call.node)) ∙ knows.known

  -- no message of the phase was sent before the phase began
  pub not_before : (message : Message) → WasSent before_world message → message.call ≡ call.id →
      message.phase ≡ call.phase.number → ⊥
  not_before message was same_call same_phase =
      not_passed fragment begun begun_world from (passed_later fragment begun room.turn.acts before_world orderly may_acts passed)
    where
      orderly : IsOrderly before_world
      orderly = reached_orderly fragment before_world reached_before

      passed : HasPassed begun before_world
      passed = record {
        known = subst (IsKnown before_world.history) same_call (known_sent before_world message orderly was);
        past = λ earlier open_here.
            less call.phase.number earlier.phase.number
            (subst (λ n. n ≤ earlier.phase.number) same_phase
            (sent_so_far before_world call.id earlier message orderly open_here was same_call))
            (room.fresh earlier open_here);
      }
