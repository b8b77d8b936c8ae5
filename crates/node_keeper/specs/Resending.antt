-- Requests that also ask all nodes for the object's start; and what a call does as it asks again: it goes on at the
-- object's start, or sends its requests again, and it may ask all nodes.
use Rattle.std.specs.Prelude.{ℕ, Bool, true, false, if◌then◌else◌, List, [], ◌∷◌, ◌++◌, Option, None, Some}
use Rattle.std.specs.List.{AllByRecursion}
use Rattle.cluster_file.specs.File.{FileContents}
use Rattle.encoder.specs.Fragment.{fragment}
use Rattle.letter.specs.declared.letter.Letter.{Letter}
use Rattle.local_object.specs.Events.{all_done}
use Rattle.local_object.specs.Local.{LocalObject}
use Rattle.local_object.specs.Outcomes.{Outcome}
use Rattle.local_object.specs.ReadingOn.{read_on_events}
use Rattle.local_object.specs.Resent.{letters_again}
use Rattle.node_effects.specs.Work.{IsGrown}
use Rattle.node_effects.specs.declared.work.Work.{Work}
use Rattle.node_keeper.specs.Delivering.{KeepsRest}
use Rattle.node_keeper.specs.Doing.{IsOutcomeAt}
use Rattle.node_keeper.specs.Objects.{objects_of}
use Rattle.node_keeper.specs.Fitting.{IsSendable}
use Rattle.node_keeper.specs.Sendings.{Sending, asked, asks_next, sent_growth, to_others}
use Rattle.node_keeper.specs.declared.keeper.Keeper.{Keeper}
use Rattle.node_keeper.specs.declared.objects.Objects.{Objects}

-- the first letters if there are any, and otherwise the other ones
abbrev pub any_or : (first other : List Letter) → List Letter
any_or [] other = other
any_or (letter ∷ letters) other = letter ∷ letters

-- after the call with this id goes on at the object's start, if it reads the sequence of layouts at an earlier position
abbrev pub read_on_here : LocalObject → (id : ℕ) → Outcome
read_on_here local id = all_done fragment local (read_on_events local id)

-- the requests of the call with this id as it asks again: those with which it goes on at the object's start, if it
-- does, and otherwise those that it sends again
abbrev pub asked_again : LocalObject → (id : ℕ) → List Letter
asked_again local id = let on = read_on_here local id in any_or on.sent (letters_again fragment on.local id)

-- a call of the object of this name asked again: it went on at the object's start, if it reads the sequence of layouts
-- at an earlier position, and nothing else changed
pub record AsksAgain (old : Objects) (name : List ℕ) (id : ℕ) (new : Objects) : Type 0 where
  pub letters : List Letter
  pub done : IsOutcomeAt old name (read_on_events (objects_of old name) id) new letters

-- a call of the object of this name asked again, and the node keeps all else as it was
pub record IsAskedAgain (old : Keeper) (name : List ℕ) (id : ℕ) (new : Keeper) : Type 0 where
  pub objects : AsksAgain old.objects name id new.objects
  pub rest : KeepsRest old new

-- the letter, if it asks for the next position
abbrev pub if_next : Letter → Option Letter
if_next letter = if asks_next letter.message.body then Some letter else None

-- the first of these letters, if all nodes are to be asked, and if it asks for the next position
abbrev pub first_for_all : (asks_all : Bool) → List Letter → Option Letter
first_for_all false letters = None
first_for_all true [] = None
first_for_all true (letter ∷ letters) = if_next letter

-- a letter about the object of a name, if there is one, to each node of the cluster file but the one of this number
abbrev pub to_all : (number : ℕ) → FileContents → (name : List ℕ) → Option Letter → List Sending
to_all number file name None = []
to_all number file name (Some letter) =
    to_others number (record { name = name; letter = letter }) (file.fixed.nodes ++ file.later)

-- requests about the object of a name, each to the node that it asks; and then, if all nodes are to be asked and these
-- requests ask for the next position, the first of them to each other node of the cluster file
abbrev pub sendings_of : (asks_all : Bool) → (number : ℕ) → FileContents → (name : List ℕ) → List Letter → List Sending
sendings_of asks_all number file name letters =
    asked number name letters ++ to_all number file name (first_for_all asks_all letters)

-- such requests went out: first each to the node that it asks, and then the first of them to all nodes, if it had to
pub record AreSent (asks_all : Bool) (keeper : Keeper) (name : List ℕ) (letters : List Letter) (before after : Work)
    : Type 0 where
  pub between : Work
  pub asked : IsGrown before between
      (sent_growth keeper.ids.node keeper.digest (asked keeper.ids.node name letters))
  pub all : IsGrown between after (sent_growth keeper.ids.node keeper.digest
      (to_all keeper.ids.node keeper.file name (first_for_all asks_all letters)))

-- the requests that the call with this id sends as it asks again, with the first of them to all nodes, if they are to
-- be asked
unfoldable pub sendings_again : (name : List ℕ) → (id : ℕ) → (asks_all : Bool) → Keeper → List Sending
sendings_again name id asks_all keeper =
    sendings_of asks_all keeper.ids.node keeper.file name (asked_again (objects_of keeper.objects name) id)

-- each request that the call with this id sends as it asks again can be sent
abbrev pub CanResend : (name : List ℕ) → (id : ℕ) → (asks_all : Bool) → Keeper → Type 0
CanResend name id asks_all keeper =
    AllByRecursion (IsSendable keeper.ids.node keeper.digest) (sendings_again name id asks_all keeper)
