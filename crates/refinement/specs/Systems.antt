-- All nodes of a cluster for one object, each with what it keeps itself, and what may happen to them.
use Rattle.std.specs.Prelude.{◌≡◌, ◌≢◌, ◌+◌, ℕ, suc, ◌==◌, if◌then◌else◌, None, Some}
use Rattle.std.specs.Prelude.{List, [], ◌∷◌, ◌++◌, map, slice_get}
use Rattle.std.specs.List.{AllByRecursion}
use Rattle.layout.specs.Layout.{IsLawful}
use Rattle.record.specs.declared.call.Entry.{Entry}
use Rattle.record.specs.Fragments.{Code}
use Rattle.network.specs.Worlds.{ClusterFile, World}
use Rattle.network.specs.Premises.{IsOneFile, IsUnused}
use Rattle.open_calls.specs.OpenCalls.{NodeCall}
use Rattle.letter.specs.declared.letter.Letter.{Letter}
use Rattle.local_object.specs.Local.{LocalObject, new_local}
use Rattle.local_object.specs.Events.{LocalEvent, done_here}
use Rattle.local_object.specs.Outcomes.{Outcome}
use Rattle.local_object.specs.May.{MayHappenHere}
use Rattle.local_object.specs.Resent.{IsResent}
use Rattle.refinement.specs.Parts.{IsPartOf, WasSentAs}
use Rattle.local_object.specs.Restarts.{IsKeptHere}
use Rattle.refinement.specs.Refined.{history_after}
use Rattle.refinement.specs.Starting.{event_count}
use Rattle.refinement.specs.ToldLetters.{AreApart, IsTrueReport, TellsTruth}
use Rattle.told_replies.specs.EarlyAnswers.{EarlyAnswer, IsEarly, early_answer_to, early_history}
use Rattle.told_replies.specs.Tellings.{Run, world_of}
use Rattle.told_queries.specs.Courses.{Course, HasRoom, run_of, spare_events}
use Rattle.told_queries.specs.Laws.{IsFirstReading}

-- all nodes: the cluster file that each runs with, what each keeps of the object, and all letters ever sent; and as
-- history the entries of the calls, and how many events there were
pub record System : Type 0 where
  pub files : (node : ℕ) → ClusterFile
  pub objects : (node : ℕ) → LocalObject
  pub letters : List Letter
  pub history : List Entry
  pub now : ℕ

-- all nodes before the first event, with these cluster files
abbrev pub opened_system : (files : ℕ → ClusterFile) → System
opened_system files = record {
  files = files;
  objects = λ node. new_local node (files node).delta (files node).first;
  letters = [];
  history = [];
  now = 0;
}

-- what happens: a node does something, it sends letters again, or it stops and starts again, and then keeps this
pub data SystemEvent : Type 0 where
  Acts : (node : ℕ) → LocalEvent → SystemEvent
  Resends : (node : ℕ) → List Letter → SystemEvent
  Restarts : (node : ℕ) → LocalObject → SystemEvent

-- what the nodes keep, with this at one of them
abbrev pub with_object_at : (objects : ℕ → LocalObject) → (node : ℕ) → LocalObject → (other : ℕ) → LocalObject
with_object_at objects node local other = if other == node then local else objects other

-- all nodes after an event; after each thing that a node does, the world keeps some events in reserve
abbrev pub system_after : Code → System → SystemEvent → System
system_after fragment system (SystemEvent.Acts node event) =
    let local = system.objects node in
    let done = done_here fragment local event in record {
      files = system.files;
      objects = with_object_at system.objects node done.local;
      letters = system.letters ++ done.sent;
      history = history_after local event (suc system.now) system.history;
      now = system.now + (event_count local event + spare_events);
    }
system_after fragment system (SystemEvent.Resends node letters) =
    record system { letters = system.letters ++ letters }
system_after fragment system (SystemEvent.Restarts node after) =
    record system { objects = with_object_at system.objects node after; now = suc system.now }

-- the letter was sent
abbrev pub WasPosted : System → Letter → Type 0
WasPosted system letter = (place : ℕ) × (slice_get system.letters place ≡ Some letter)

-- no call of the history has this id
abbrev pub IsFree : System → (id : ℕ) → Type 0
IsFree system id = AllByRecursion (λ entry. entry.call ≢ id) system.history

-- what is assumed of an event at a node: a letter is one that was sent, the id of a call is new, and only the node that
-- moves objects begins a move
abbrev pub IsPremisedIn : System → (node : ℕ) → LocalEvent → Type 0
IsPremisedIn system node (LocalEvent.BeginRead id) = IsFree system id
IsPremisedIn system node (LocalEvent.BeginWrite id value) = IsFree system id
IsPremisedIn system node (LocalEvent.BeginMove id layout) =
    IsFree system id × (node ≡ (system.files node).mover)
IsPremisedIn system node (LocalEvent.Serve letter) = WasPosted system letter
IsPremisedIn system node (LocalEvent.Take letter) = WasPosted system letter
IsPremisedIn system node (LocalEvent.Hear letter) = WasPosted system letter
IsPremisedIn system node (LocalEvent.Redirect letter) = WasPosted system letter
IsPremisedIn system node _ = Unit {0}

-- the event may happen, and meets the premises: a node sends again only letters of the current phases of its calls, and
-- a node that starts again keeps what its log keeps
abbrev pub MayHappenIn : Code → System → SystemEvent → Type 0
MayHappenIn fragment system (SystemEvent.Acts node event) =
    MayHappenHere fragment (system.objects node) event × IsPremisedIn system node event
MayHappenIn fragment system (SystemEvent.Resends node letters) =
    AllByRecursion (IsResent fragment (system.objects node)) letters
MayHappenIn fragment system (SystemEvent.Restarts node after) =
    IsKeptHere (node ≡ (system.files node).mover) (system.objects node) after

-- all nodes after these events
abbrev pub system_run : Code → List SystemEvent → System → System
system_run fragment [] system = system
system_run fragment (event ∷ events) system = system_run fragment events (system_after fragment system event)

-- these events may happen one after another
abbrev pub MayRunIn : Code → List SystemEvent → System → Type 0
MayRunIn fragment [] system = Unit {0}
MayRunIn fragment (event ∷ events) system =
    MayHappenIn fragment system event × MayRunIn fragment events (system_after fragment system event)

-- the nodes have reached this state from an opened system with one lawful cluster file, by events that may happen
pub record IsReachedSystem (fragment : Code) (system : System) : Type 0 where
  pub files : (node : ℕ) → ClusterFile
  pub one : IsOneFile files
  pub lawful : IsLawful (files 0).first
  pub events : List SystemEvent
  pub may : MayRunIn fragment events (opened_system files)
  pub result : system_run fragment events (opened_system files) ≡ system

-- a world is that of all nodes: what each keeps is its part, and the letters were sent in it
pub record HasPartsOf (world : World) (system : System) : Type 0 where
  pub files : world.files ≡ system.files
  pub nodes : (node : ℕ) → (system.objects node).node ≡ node
  pub parts : (node : ℕ) → IsPartOf world (system.objects node)
  pub letters : AllByRecursion (WasSentAs world) system.letters
  pub now : world.now ≡ system.now

-- what all nodes were told is true in the course, and a member told each phase of a call once
pub record IsToldTruth (fragment : Code) (course : Course) (system : System) : Type 0 where
  pub letters : AllByRecursion (TellsTruth fragment course) system.letters
  pub reports : (node : ℕ) → AllByRecursion (IsTrueReport fragment course) (system.objects node).reports
  pub apart : (node : ℕ) → AreApart (system.objects node).reports

-- the answers were given early in the run, to calls of the history that are open no more; with them, the history is
-- that of all nodes
pub record AreEarlyAnswers (fragment : Code) (run : Run) (answers : List EarlyAnswer) (history : List Entry)
    : Type 0 where
  pub early : AllByRecursion (IsEarly fragment run) answers
  pub ended : AllByRecursion (λ call. early_answer_to answers call.id ≡ None) (world_of fragment run).calls
  pub used : (id : ℕ) → IsUnused (world_of fragment run) id → early_answer_to answers id ≡ None
  pub same : early_history answers (world_of fragment run).history ≡ history

-- the course leaves room for a query of the call, if the call reads the first position that counts
abbrev pub HasRoomIfReading : Code → Course → NodeCall → Type 0
HasRoomIfReading fragment course call = IsFirstReading call → HasRoom fragment course call

-- the course leads to the world of all nodes: what each keeps is its part, the letters were sent in it, what they tell
-- is true, and the history is the same, with these early answers; and each call may query while it reads first
pub record IsCourseOf (fragment : Code) (course : Course) (answers : List EarlyAnswer) (system : System)
    : Type 0 where
  pub parts : HasPartsOf (world_of fragment (run_of course)) system
  pub told : IsToldTruth fragment course system
  pub early : AreEarlyAnswers fragment (run_of course) answers system.history
  pub rooms : (node : ℕ) → AllByRecursion (HasRoomIfReading fragment course) (system.objects node).calls

-- What a node does in a row

-- each of these events at a node meets the premises when its turn comes
abbrev pub ArePremisedIn : Code → System → (node : ℕ) → List LocalEvent → Type 0
ArePremisedIn fragment system node [] = Unit {0}
ArePremisedIn fragment system node (event ∷ events) =
    IsPremisedIn system node event
    × ArePremisedIn fragment (system_after fragment system (SystemEvent.Acts node event)) node events

-- the node may do these things one after another; then it keeps this, these letters were sent besides those from
-- before, and other nodes keep what they kept
pub record IsDoneIn (fragment : Code) (system : System) (node : ℕ) (events : List LocalEvent)
    (after : Outcome) : Type 0 where
  pub may : MayRunIn fragment (map (SystemEvent.Acts node) events) system
  pub own : (system_run fragment (map (SystemEvent.Acts node) events) system).objects node ≡ after.local
  pub others : (other : ℕ) → other ≢ node →
      (system_run fragment (map (SystemEvent.Acts node) events) system).objects other ≡ system.objects other
  pub letters : (system_run fragment (map (SystemEvent.Acts node) events) system).letters ≡ system.letters ++ after.sent
