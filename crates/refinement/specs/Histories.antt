-- The history of an object, made from what clients saw.
use Rattle.std.specs.Prelude.{◌≡◌, ◌<◌, ℕ, ◌==◌, if◌then◌else◌, Bool, List, [], ◌∷◌, ◌++◌, map, Option, None, Some}
use Rattle.std.specs.Prelude.{IsSome, slice_get}
use Rattle.std.specs.List.{filter}
use Rattle.record.specs.declared.call.Entry.{Entry}
use Rattle.record.specs.declared.call.Operation.{Operation}
use Rattle.record.specs.declared.call.Operation.TheVariants as operation
use Rattle.local_object.specs.declared.progress.Ended.{Ended}
use Rattle.deeds.specs.Named.{is_same_name}
use Rattle.deeds.specs.Deeds.{Notice}

-- whether a notice is about the object of this name
abbrev pub is_about : (name : List ℕ) → Notice → Bool
is_about name (Notice.Reads other id) = is_same_name name other
is_about name (Notice.Writes other id value) = is_same_name name other
is_about name (Notice.Moves other id layout) = is_same_name name other
is_about name (Notice.Tells other ended) = is_same_name name other

-- the notices about the object of this name
abbrev pub notices_about : (name : List ℕ) → List Notice → List Notice
notices_about name notices = filter (is_about name) notices

-- a notice, and when clients saw it
pub record TimedNotice : Type 0 where
  pub time : ℕ
  pub notice : Notice

-- the times rise from notice to notice, and the first one is greater than the given time
abbrev pub HaveRisingTimes : (time : ℕ) → List TimedNotice → Type 0
HaveRisingTimes time [] = Unit {0}
HaveRisingTimes time (notice ∷ notices) = (time < notice.time) × HaveRisingTimes notice.time notices

-- the entry of a call that began at this time
abbrev pub entry_of_begun : (id : ℕ) → Operation → Option (List ℕ) → (time : ℕ) → Entry
entry_of_begun id kind value time = record { call = id; kind = kind; called = time; answered = None; value = value }

-- the entry, with the answer if this is its call
abbrev pub told_entry : Ended → (time : ℕ) → Entry → Entry
told_entry ended time entry =
    if entry.call == ended.id then record entry { answered = Some time; value = ended.value } else entry

-- the history after a notice: one entry more for a call that begins, or the answer of a call
abbrev pub after_notice : (time : ℕ) → Notice → List Entry → List Entry
after_notice time (Notice.Reads name id) history = history ++ entry_of_begun id operation.Read None time ∷ []
after_notice time (Notice.Writes name id value) history =
    history ++ entry_of_begun id operation.Write (Some value) time ∷ []
after_notice time (Notice.Moves name id layout) history = history ++ entry_of_begun id operation.Move None time ∷ []
after_notice time (Notice.Tells name ended) history = map (told_entry ended time) history

-- the history after these notices
abbrev pub after_notices : List TimedNotice → List Entry → List Entry
after_notices [] history = history
after_notices (timed ∷ notices) history = after_notices notices (after_notice timed.time timed.notice history)

-- the history has the call that was answered, with this answer
pub record IsAnswered (history : List Entry) (ended : Ended) : Type 0 where
  pub place : ℕ
  pub entry : Entry
  pub at : slice_get history place ≡ Some entry
  pub call : entry.call ≡ ended.id
  pub kind : entry.kind ≡ ended.kind
  pub answered : IsSome entry.answered
  pub value : entry.value ≡ ended.value

-- the history is that of these notices, at rising times, and has each answer that clients were told
pub record IsHistoryOf (name : List ℕ) (notices : List Notice) (history : List Entry) : Type 0 where
  pub timed : List TimedNotice
  pub those : map (λ timed. timed.notice) timed ≡ notices_about name notices
  pub rising : HaveRisingTimes 0 timed
  pub result : history ≡ after_notices timed []
  pub told : (place : ℕ) (ended : Ended) → slice_get notices place ≡ Some (Notice.Tells name ended) →
      IsAnswered history ended
