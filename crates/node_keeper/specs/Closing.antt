-- Banks that a node closes after it has heeded a letter: those of positions before the object's start, whose pieces no
-- call needs that begins from now on. If the pointer of such a bank is not final, the node first raises it, if it can.
use Rattle.std.specs.Prelude.{◌≡◌, ℕ, if◌then◌else◌, List, [], ◌∷◌, ◌++◌, Option, None, Some}
use Rattle.std.specs.List.{AllByRecursion}
use Rattle.encoder.specs.Fragment.{fragment}
use Rattle.letter.specs.declared.letter.Letter.{Letter}
use Rattle.local_object.specs.Doing.{can_close, close_events}
use Rattle.local_object.specs.Events.{all_done}
use Rattle.local_object.specs.Local.{LocalObject}
use Rattle.local_object.specs.Passed.{passed_positions, raise_events}
use Rattle.object_letters.specs.Closing.{after_close}
use Rattle.object_letters.specs.Raising.{raising_letter}
use Rattle.recoveries.specs.Records.{LogRecord}
use Rattle.node_effects.specs.Work.{IsGrown, no_growth}
use Rattle.node_effects.specs.declared.work.Work.{Work}
use Rattle.node_keeper.specs.Acts.{logged_growth}
use Rattle.node_keeper.specs.Doing.{IsOutcomeAt}
use Rattle.node_keeper.specs.Fitting.{IsLoggable}
use Rattle.node_keeper.specs.Objects.{objects_of}
use Rattle.node_keeper.specs.declared.keeper.Keeper.{Keeper}

-- What the log gets

-- that the node serves a letter about the object of a name, if there is a letter
abbrev pub serving_records : (name : List ℕ) → Option Letter → List LogRecord
serving_records name None = []
serving_records name (Some letter) = LogRecord.Serves name letter ∷ []

-- before the node raises the pointer of its bank of a position: that it serves the letter with which it asks itself for
-- this, if the pointer can be raised
abbrev pub raised_records : (name : List ℕ) → LocalObject → (position : ℕ) → List LogRecord
raised_records name local position = serving_records name (raising_letter local position)

-- before the node closes its bank of a position: that it closes the bank, if the bank can be closed
abbrev pub closed_records : (name : List ℕ) → LocalObject → (position : ℕ) → List LogRecord
closed_records name local position = if can_close local position then LogRecord.Closes name position ∷ [] else []

-- what the node keeps after it raises the pointer of its bank of a position, if it can
abbrev pub after_raise : LocalObject → (position : ℕ) → LocalObject
after_raise local position = (all_done fragment local (raise_events local position)).local

-- what it keeps after it then closes this bank, if it can
abbrev pub after_pass : LocalObject → (position : ℕ) → LocalObject
after_pass local position = after_close (after_raise local position) position

-- what the log gets if the node raises the pointer of its bank of a position, and then closes the bank
abbrev pub passed_records : (name : List ℕ) → LocalObject → (position : ℕ) → List LogRecord
passed_records name local position =
    raised_records name local position ++ closed_records name (after_raise local position) position

-- what the log gets if the node does this at these positions, one after another
abbrev pub all_passed_records : (name : List ℕ) → LocalObject → (positions : List ℕ) → List LogRecord
all_passed_records name local [] = []
all_passed_records name local (position ∷ positions) =
    passed_records name local position ++ all_passed_records name (after_pass local position) positions

-- all that the log gets can be written, if the node does this at each position before the object's start at which it
-- keeps an open bank
abbrev pub CanClosePassed : (digest name : List ℕ) → LocalObject → Type 0
CanClosePassed digest name local =
    AllByRecursion (IsLoggable digest) (all_passed_records name local (passed_positions local))

-- What the node does

-- the node raised the pointer of its bank of a position of the object of a name to final, if it could: the record went
-- to the log
pub record RaisesBank (name : List ℕ) (position : ℕ) (old : Keeper) (before : Work) (new : Keeper)
    (after : Work) : Type 0 where
  pub done : IsOutcomeAt old.objects name (raise_events (objects_of old.objects name) position) new.objects []
  pub grown : IsGrown before after
      (logged_growth old.digest (raised_records name (objects_of old.objects name) position))
  pub fits : AllByRecursion (IsLoggable old.digest) (raised_records name (objects_of old.objects name) position)
  pub file : new.file ≡ old.file
  pub digest : new.digest ≡ old.digest
  pub ids : new.ids ≡ old.ids

-- the node closed its bank of a position of the object of a name, if it could: the record went to the log
pub record ClosesBank (name : List ℕ) (position : ℕ) (old : Keeper) (before : Work) (new : Keeper)
    (after : Work) : Type 0 where
  pub done : IsOutcomeAt old.objects name (close_events (objects_of old.objects name) position) new.objects []
  pub grown : IsGrown before after
      (logged_growth old.digest (closed_records name (objects_of old.objects name) position))
  pub fits : AllByRecursion (IsLoggable old.digest) (closed_records name (objects_of old.objects name) position)
  pub file : new.file ≡ old.file
  pub digest : new.digest ≡ old.digest
  pub ids : new.ids ≡ old.ids

-- the node raised the pointer of its bank of a position, if it could, and then closed the bank, if it could
pub record PassesBank (name : List ℕ) (position : ℕ) (old : Keeper) (before : Work) (new : Keeper)
    (after : Work) : Type 0 where
  pub middle : Keeper
  pub between : Work
  pub raises : RaisesBank name position old before middle between
  pub closes : ClosesBank name position middle between new after

-- the node did this at these positions, one after another
abbrev pub PassesBanks : (name : List ℕ) → (positions : List ℕ) → (old : Keeper) → (before : Work) → (new : Keeper) →
    (after : Work) → Type 0
PassesBanks name [] old before new after = (new ≡ old) × IsGrown before after no_growth
PassesBanks name (position ∷ positions) old before new after =
    (middle : Keeper) × (between : Work) × PassesBank name position old before middle between
    × PassesBanks name positions middle between new after

-- the node did this at each position before the start of the object of a name at which it kept an open bank
abbrev pub ClosesPassed : (name : List ℕ) → (old : Keeper) → (before : Work) → (new : Keeper) → (after : Work) → Type 0
ClosesPassed name old before new after =
    PassesBanks name (passed_positions (objects_of old.objects name)) old before new after
