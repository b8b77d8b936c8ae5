-- What stays true of the process of one node, and of what the node of the cluster beside it keeps.
use Rattle.std.proofs.Common.{◌≡◌, ◌≤◌, ℕ, suc, List, [], ◌∷◌, ◌++◌, length, take, true, Bool, cond, false}
use Rattle.std.proofs.Common.{Option, Some, slice_get, arith, zero}
use Rattle.std.specs.List.{AllByRecursion, filter}
use Rattle.deeds.specs.Deeds.{Notice}
use Rattle.encoder.specs.Fragment.{fragment}
use Rattle.deeds.specs.Handled.{IsHandled}
use Rattle.deeds.specs.Kept.{FileOfNames, KeptNode, new_node}
use Rattle.deeds.specs.Named.{NamedLetter as Named, IsOneOf}
use Rattle.open_calls.proofs.ListLemmas.{all_weaker}
use Rattle.recoveries.specs.Copies.{IsRecorded}
use Rattle.recoveries.specs.OwnCalls.{HasOwnCalls}
use Rattle.recoveries.specs.RewritingNodes.{HasOwnObjects}
use Rattle.node_keeper.specs.Keeping.{kept_of}
use Rattle.node.specs.declared.node.Node.{Node}
use Rattle.node_store.specs.Recovery.{IsWholeEntry}
use Rattle.refinement.proofs.PlaceLemmas.{get_first}
use Rattle.processes.specs.Processes.{Process, WaitingAnswers, WaitingFrame}
use Rattle.processes.proofs.FateLemmas.{remaining}
use Rattle.processes.proofs.LogLemmas.{all_records}
use Rattle.processes.specs.Letters.{IsCarried}
use Rattle.processes.proofs.WantLemmas.{carried_among}

-- the notice is one of these
abbrev pub IsAmong : List Notice → Notice → Type 0
IsAmong notices notice = (place : ℕ) × (slice_get notices place ≡ Some notice)

-- a node has this number, and all its objects are its own
pub record IsOwnNode (number : ℕ) (node : Node) : Type 0 where
  pub number_is : node.keeper.ids.node ≡ number
  pub own : HasOwnObjects (kept_of node.keeper)

-- the entries of a log are whole, and those that are synced are among them
pub record HasWholeLog (process : Process) : Type 0 where
  pub whole : AllByRecursion IsWholeEntry process.log
  pub fits : process.synced ≤ length process.log

-- something waits behind so many entries of the log, and if those remain, this holds of it
abbrev pub IsBehind : (behind length left : ℕ) → (Holds : Type 0) → Type 0
IsBehind behind length left Holds = (behind ≤ length) × (behind ≤ left → Holds)

-- a frame waits behind entries of the log, and if those remain, it has one of these letters
abbrev pub FrameStands : (length left : ℕ) → List Named → WaitingFrame → Type 0
FrameStands length left letters waiting = IsBehind waiting.behind length left (IsCarried letters waiting.frame)

-- answers wait behind entries of the log, and if those remain, clients are told nothing but these notices
abbrev pub AnswersStand : (length left : ℕ) → List Notice → WaitingAnswers → Type 0
AnswersStand length left notices waiting = IsBehind waiting.behind length left
    ((notice : Notice) → IsAmong waiting.told notice → IsAmong notices notice)

-- how many entries of the process's log remain
abbrev pub left_in : Option ℕ → Process → ℕ
left_in fate process = remaining fate (length process.log)

-- the entries that remain record what the node of the cluster keeps; if all do, the process's node keeps the same; the
-- letters and answers that may go out are the cluster's
pub record Stands (names : FileOfNames) (number : ℕ) (fate : Option ℕ) (process : Process) (kept : KeptNode)
    (letters : List Named) (notices : List Notice) : Type 0 where
  pub recorded : IsRecorded (new_node names number) (all_records (take (left_in fate process) process.log)) kept
  pub alive : (node : Node) → process.running ≡ Some node → left_in fate process ≡ length process.log → kept_of node.keeper ≡ kept
  pub runs : (node : Node) → process.running ≡ Some node → IsOwnNode number node
  pub frames : AllByRecursion (FrameStands (length process.log) (left_in fate process) letters) process.frames
  pub answers : AllByRecursion (AnswersStand (length process.log) (left_in fate process) notices) process.answers
  pub sound : HasWholeLog process
  pub own_calls : HasOwnCalls kept
  pub file : kept.file ≡ names

-- the node of the cluster handles letters and then keeps what the process stands beside
pub record HandlesBeside (names : FileOfNames) (number : ℕ) (fate : Option ℕ) (process : Process) (kept : KeptNode)
    (got letters : List Named) (notices seen : List Notice) : Type 0 where
  pub after : KeptNode
  pub sent : List Named
  pub told : List Notice
  pub unseen : List Notice
  pub handled : IsHandled fragment kept got after sent told
  pub first_seen : seen ≡ told ++ unseen
  pub stands : Stands names number fate process after (letters ++ sent) (notices ++ told)

-- Lists of notices

pub among_first : (xs ys : List Notice) (notice : Notice) → IsAmong xs notice → IsAmong (xs ++ ys) notice
among_first xs ys notice is = (is.0, get_first xs ys is.0 notice is.1)

pub among_second : (xs ys : List Notice) (notice : Notice) → IsAmong ys notice → IsAmong (xs ++ ys) notice
among_second [] ys notice is = is
among_second (x ∷ xs) ys notice is = let rest = among_second xs ys notice is in (suc rest.0, rest.1)

-- what passes a test is one of the list, and passes it
pub among_filtered : (p : Notice → Bool) (xs : List Notice) (notice : Notice) → IsAmong (filter p xs) notice →
    IsAmong xs notice
among_filtered p [] notice is = is
among_filtered p (x ∷ xs) notice is = go (p x) is (among_filtered p xs notice)
  where
    go : (b : Bool) → IsAmong (cond b (x ∷ filter p xs) (filter p xs)) notice →
        (IsAmong (filter p xs) notice → IsAmong xs notice) → IsAmong (x ∷ xs) notice
    go true (zero, e) later = (0, e)
    go true (suc i, e) later = let rest = later (i, e) in (suc rest.0, rest.1)
    go false is later = let rest = later is in (suc rest.0, rest.1)

-- What waits

-- what stood with a shorter log, and where as much or less remains, stands; `reach` says that what remains now had remained
behind_later : (behind length left long now : ℕ) (P Q : Type 0) → length ≤ long →
    (behind ≤ length → behind ≤ now → behind ≤ left) → (P → Q) → IsBehind behind length left P → IsBehind behind long now Q
behind_later behind length left long now P Q longer reach wider is =
    let within = is.0 in (omega arith, λ early. wider (is.1 (reach is.0 early)))

-- so do frames with fewer letters, and answers with fewer notices
pub frames_stand : (length left long now : ℕ) (letters more : List Named) → length ≤ long →
    ((behind : ℕ) → behind ≤ length → behind ≤ now → behind ≤ left) →
    ((letter : Named) → IsOneOf letters letter → IsOneOf more letter) → (frames : List WaitingFrame) →
    AllByRecursion (FrameStands length left letters) frames → AllByRecursion (FrameStands long now more) frames
frames_stand length left long now letters more longer reach among frames stand =
    all_weaker (FrameStands length left letters) (FrameStands long now more)
    (λ waiting. behind_later waiting.behind length left long now (IsCarried letters waiting.frame) (IsCarried more waiting.frame)
    longer (reach waiting.behind) (carried_among letters more among waiting.frame)) frames stand

pub answers_stand : (length left long now : ℕ) (notices more : List Notice) → length ≤ long →
    ((behind : ℕ) → behind ≤ length → behind ≤ now → behind ≤ left) →
    ((notice : Notice) → IsAmong notices notice → IsAmong more notice) → (answers : List WaitingAnswers) →
    AllByRecursion (AnswersStand length left notices) answers → AllByRecursion (AnswersStand long now more) answers
answers_stand length left long now notices more longer reach among answers stand =
    all_weaker (AnswersStand length left notices) (AnswersStand long now more)
    (λ waiting. behind_later waiting.behind length left long now
    ((notice : Notice) → IsAmong waiting.told notice → IsAmong notices notice)
    ((notice : Notice) → IsAmong waiting.told notice → IsAmong more notice)
    longer (reach waiting.behind) (λ all notice told. among notice (all notice told))) answers stand

-- a process stands beside more letters and notices
pub stands_wider : (names : FileOfNames) (number : ℕ) (fate : Option ℕ) (process : Process) (kept : KeptNode)
    (letters more : List Named) (notices seen : List Notice) →
    ((letter : Named) → IsOneOf letters letter → IsOneOf more letter) →
    ((notice : Notice) → IsAmong notices notice → IsAmong seen notice) →
    Stands names number fate process kept letters notices → Stands names number fate process kept more seen
stands_wider names number fate process kept letters more notices seen among noticed is = record {
  recorded = is.recorded;
  alive = is.alive;
  runs = is.runs;
  frames = frames_stand (length process.log) (left_in fate process) (length process.log) (left_in fate process) letters more
      (omega arith) (λ behind within early. early) among process.frames is.frames;
  answers = answers_stand (length process.log) (left_in fate process) (length process.log) (left_in fate process) notices seen
      (omega arith) (λ behind within early. early) noticed process.answers is.answers;
  sound = is.sound;
  own_calls = is.own_calls;
  file = is.file;
}
