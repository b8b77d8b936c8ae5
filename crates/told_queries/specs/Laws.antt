-- The contracts that docs/trusted.md lists do not depend on this file; other contracts and proofs do.
-- The law: a reading whose replies told tags may stand for the query too.
use Rattle.std.specs.Prelude.{◌≡◌, ◌≢◌, ◌+◌, false, nat_eq, List, length}
use Rattle.std.specs.List.{AllByRecursion, IsDistinct}
use Rattle.layout.specs.Layout.{IsLawful, Layout, quorum_of}
use Rattle.bank.specs.declared.kind.Kind.TheVariants.{Next}
use Rattle.bank.specs.declared.status.Status.TheVariants.{Unset}
use Rattle.mail.specs.declared.message.Message.{Message}
use Rattle.record.specs.declared.stage.Stage.TheVariants.{ReadNext}
use Rattle.record.specs.Fragments.{Code}
use Rattle.record.specs.Legal.{is_move}
use Rattle.open_calls.specs.OpenCalls.{NodeCall, with_open}
use Rattle.open_calls.specs.Queries.{ToldTag, queried, telling_members}
use Rattle.network.specs.Worlds.{known_layout, opened_world}
use Rattle.network.specs.Events.{IsOpen}
use Rattle.network.specs.Premises.{IsOneFile, MayHappenInTurn, WasSent}
use Rattle.letter.specs.declared.telling.Telling.{Telling}
use Rattle.starts.specs.Reading.{HasSent}
use Rattle.told_replies.specs.EarlyAnswers.{EarlyAnswer, IsEarly}
use Rattle.told_replies.specs.Tellings.{world_of}
use Rattle.told_queries.specs.Courses.{Course, HasRoom, WasToldIn, events_of, run_of}

-- the course is one of events that may happen and meet the premises, of nodes with one lawful cluster file
pub record IsCourse (fragment : Code) (course : Course) : Type 0 where
  pub one : IsOneFile course.files
  pub lawful : IsLawful (course.files 0).first
  pub may : MayHappenInTurn fragment (events_of course.turns) (opened_world course.files)

-- the call is a read or a write that asks for the pointers of the first position that counts
pub record IsFirstReading (call : NodeCall) : Type 0 where
  pub client : is_move call.kind ≡ false
  pub stage : call.stage ≡ ReadNext call.phase.position call.phase.position
  pub kind : call.phase.kind ≡ Next

-- the member told the call, with a reply to its current phase, an unset pointer, and that this is its greatest
-- finalized tag
pub record HasToldTag (fragment : Code) (course : Course) (call : NodeCall) (told : ToldTag) : Type 0 where
  pub request : Message
  pub telling : Telling
  pub was : WasToldIn fragment course request telling
  pub same_call : request.call ≡ call.id
  pub same_phase : request.phase ≡ call.phase.number
  pub same_member : request.member ≡ told.member
  pub status : telling.status ≡ Unset
  pub greatest : telling.greatest ≡ told.tag

-- as many members as are a quorum of a position that exists told the call so, none of them twice
pub record IsToldTags (fragment : Code) (course : Course) (call : NodeCall) (layout : Layout) (told : List ToldTag)
    : Type 0 where
  pub known : known_layout (world_of fragment (run_of course)) call.node call.phase.position ≡ layout
  pub lawful : IsLawful layout
  pub distinct : IsDistinct nat_eq (telling_members told)
  pub quorum : length told ≡ quorum_of layout
  pub each : AllByRecursion (HasToldTag fragment course call) told

-- there is another course, in which the call queried, and members told it these tags; its world is the same but for
-- the call, for more messages, among them the requests of the query, and for as many more events as tags were told; and
-- in it was told what was told, answers were early that were early, and there is room that was there, but for what is
-- about the call
pub record StandsForQuery (fragment : Code) (course : Course) (call : NodeCall) (layout : Layout) (told : List ToldTag)
    : Type 0 where
  pub other : Course
  pub files : other.files ≡ course.files
  pub is_course : IsCourse fragment other
  pub sent : List Message
  pub world : world_of fragment (run_of other) ≡ record (world_of fragment (run_of course)) {
    calls = with_open (queried call layout told) (world_of fragment (run_of course)).calls;
    sent = sent;
    now = (world_of fragment (run_of course)).now + length told;
  }
  pub asked : HasSent (world_of fragment (run_of other)) (queried call layout told)
  pub still_sent : (message : Message) → WasSent (world_of fragment (run_of course)) message →
      WasSent (world_of fragment (run_of other)) message
  pub still_told : (request : Message) (telling : Telling) → WasToldIn fragment course request telling →
      WasToldIn fragment other request telling
  pub still_early : (answer : EarlyAnswer) → answer.id ≢ call.id → IsEarly fragment (run_of course) answer →
      IsEarly fragment (run_of other) answer
  pub still_room : (another : NodeCall) → another.id ≢ call.id → HasRoom fragment course another →
      HasRoom fragment other another

-- an open read or write, with room for a query, that reads first and was told tags by a quorum, may have queried
abbrev pub ReadingsMayQuery : Type 0
ReadingsMayQuery = (fragment : Code) (course : Course) (call : NodeCall) (layout : Layout) (told : List ToldTag) →
    IsCourse fragment course → IsOpen (world_of fragment (run_of course)) call.id call → IsFirstReading call →
    HasRoom fragment course call → IsToldTags fragment course call layout told →
    StandsForQuery fragment course call layout told
