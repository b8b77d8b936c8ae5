-- The law: a first reading that was told tags by a quorum may stand for the query.
use Rattle.std.proofs.Common.{◌≡◌, ℕ, suc, List, [], ◌∷◌, ◌++◌, append_assoc, slice_get, refl, sym, subst, ap, ◌∙◌}
use Rattle.layout.specs.Layout.{Layout}
use Rattle.bank.specs.Bank.{empty_piece}
use Rattle.bank.specs.declared.kind.Kind.TheVariants.{Query}
use Rattle.mail.specs.declared.message.Message.{Message}
use Rattle.record.specs.Fragments.{Code}
use Rattle.record.specs.Sending.{requests}
use Rattle.open_calls.specs.OpenCalls.{NodeCall}
use Rattle.open_calls.specs.Queries.{ToldTag, queried}
use Rattle.network.specs.Worlds.{ClusterFile, World, opened_world}
use Rattle.network.specs.Events.{Event, IsOpen, world_after}
use Rattle.network.specs.Premises.{MayHappenInTurn, WasSent}
use Rattle.starts.specs.Reading.{HasSent}
use Rattle.told_replies.specs.EarlyAnswers.{EarlyAnswer, IsEarly}
use Rattle.told_replies.specs.Tellings.{world_of}
use Rattle.told_queries.specs.Courses.{Course, HasRoom, Turn, events_of, run_of}
use Rattle.told_queries.specs.Laws.{IsCourse, IsFirstReading, IsToldTags, ReadingsMayQuery, StandsForQuery}
use Rattle.told_queries.proofs.KeptEarlyLemmas.{early_kept}
use Rattle.told_queries.proofs.KeptTurnLemmas.{ServeNone, still_room, still_told}
use Rattle.told_queries.proofs.LastTakesLemmas.{Does, last_takes}
use Rattle.told_queries.proofs.OtherCourseLemmas as there
use Rattle.told_queries.proofs.OtherRunLemmas as run
use Rattle.told_queries.proofs.QueriedCourseLemmas as ends
use Rattle.told_queries.proofs.RunLemmas.{may_append, run_append}
use Rattle.told_queries.proofs.SplitCourseLemmas.{events_append}

-- takes serve nothing
takes_serve_none : (call : NodeCall) (told : List ToldTag) (message : Message) → last_takes call told ≡ Event.Serve message ∷ [] → ⊥
takes_serve_none call [] message e = cc
takes_serve_none call (one ∷ told) message e = cc

-- an early answer stays so as the run goes on
early_later : (fragment : Code) (files : ℕ → ClusterFile) (events more all : List Event) (answer : EarlyAnswer) → all ≡ events ++ more →
    IsEarly fragment (record { files = files; events = events }) answer → IsEarly fragment (record { files = files; events = all }) answer
early_later fragment files events more all answer same early = record {
  before = early.before;
  after = early.after ++ more;
  until = same ∙ ap (λ l. l ++ more) early.until ∙ append_assoc early.before early.after more;
  now = early.now;
  call = early.call;
  carried = early.carried;
  ends = early.ends;
}

module _ (fragment : Code) (course : Course) (call : NodeCall) (layout : Layout) (told : List ToldTag) (is : IsCourse fragment course)
    (open_there : IsOpen (world_of fragment (run_of course)) call.id call) (first : IsFirstReading call)
    (room : HasRoom fragment course call) (tells : IsToldTags fragment course call layout told) where
  abbrev opened : World
  opened = opened_world course.files

  abbrev others : List Turn
  others = run.others fragment course call is open_there first room layout told tells

  abbrev last_turn : Turn
  last_turn = run.last_turn fragment course call is open_there first room layout told tells

  abbrev other : Course
  other = run.other fragment course call is open_there first room layout told tells

  abbrev last : World
  last = world_of fragment (run_of course)

  abbrev beside_last : World
  beside_last = run.beside_last fragment course call is open_there first room layout told tells

  abbrev end : World
  end = ends.end fragment course call is open_there first room layout told tells

  abbrev more : List Event
  more = (last_takes call told ++ []) ++ []

  takes : Does fragment (last_takes call told) beside_last end
  takes = ends.takes fragment course call is open_there first room layout told tells

  all_events : events_of other.turns ≡ events_of others ++ more
  all_events = events_append others (last_turn ∷ [])

  world_is : world_of fragment (run_of other) ≡ end
  world_is =
      ap (λ events. world_after fragment events opened) all_events ∙ run_append fragment (events_of others) more opened
      ∙ ap (world_after fragment more) (run.world_others fragment course call is open_there first room layout told tells)
      ∙ run_append fragment (last_takes call told ++ []) [] beside_last ∙ run_append fragment (last_takes call told) [] beside_last
      ∙ takes.result

  may_more : MayHappenInTurn fragment more beside_last
  may_more =
      may_append fragment (last_takes call told ++ []) [] beside_last
      (may_append fragment (last_takes call told) [] beside_last takes.may tt) tt

  may_all : MayHappenInTurn fragment (events_of other.turns) opened
  may_all =
      subst (λ events. MayHappenInTurn fragment events opened) (sym all_events)
      (may_append fragment (events_of others) more opened
      (run.may_others fragment course call is open_there first room layout told tells)
      (subst (MayHappenInTurn fragment more) (sym (run.world_others fragment course call is open_there first room layout told tells))
      may_more))

  -- the requests of the query
  asked : HasSent end (queried call layout told)
  asked place message at =
      there.quick_asked fragment course call is open_there first room layout told tells place message
      (ap (λ (l : Layout). slice_get (requests call.id (suc call.phase.number) Query call.phase.position l.members 0 empty_piece) place)
      (sym tells.known) ∙ at)

  serve_none : ServeNone (last_turn ∷ [])
  serve_none = (takes_serve_none call told, tt)

  stands : StandsForQuery fragment course call layout told
  stands = record {
    other = other;
    files = refl;
    is_course = record { one = is.one; lawful = is.lawful; may = may_all };
    sent = beside_last.sent;
    world = world_is;
    asked = subst (λ w. HasSent w (queried call layout told)) (sym world_is) asked;
    still_sent = λ message was. subst (λ w. WasSent w message) (sym world_is)
        ((run.beside fragment course call is open_there first room layout told tells).sent message was);
    still_told = still_told fragment call.id course.files course.turns others (last_turn ∷ [])
        (run.alike fragment course call is open_there first room layout told tells)
        (ends.replays fragment course call is open_there first room layout told tells) serve_none;
    still_early = λ answer apart early. early_later fragment course.files (events_of others) more (events_of other.turns) answer all_events
        (early_kept fragment call.id course.files (events_of course.turns) (events_of others)
        (ends.replays fragment course call is open_there first room layout told tells) answer apart early);
    still_room = still_room fragment call.id course.files course.turns others (last_turn ∷ [])
        (run.alike fragment course call is open_there first room layout told tells)
        (ends.replays fragment course call is open_there first room layout told tells) serve_none;
  }

pub may_query : ReadingsMayQuery
may_query fragment course call layout told is open_there first room tells =
    stands fragment course call layout told is open_there first room tells
