-- The contracts that docs/trusted.md lists do not depend on this file; other contracts and proofs do.
-- The laws: a fit keeper stays fit, whatever the node does with calls and with fit letters, and its letters to itself
-- are fit.
use Rattle.std.specs.Prelude.{⊤, ◌<◌, ◌^◌, ℕ, Bool, List, []}
use Rattle.fitting.specs.Letters.{IsFitLayout}
use Rattle.fitting.specs.Outcomes.{IsShortEnded}
use Rattle.layout.specs.Layout.{Layout}
use Rattle.letter.specs.declared.letter.NamedLetter.{NamedLetter}
use Rattle.local_object.specs.Doing.{give_up_events}
use Rattle.node_effects.specs.Work.{IsGrown}
use Rattle.node_effects.specs.declared.work.Work.{Work}
use Rattle.node_keeper.specs.Beginning.{BeginsCall, moving_call, reading_call, writing_call}
use Rattle.node_keeper.specs.Delivering.{DeliversLetter, KeepsRest}
use Rattle.node_keeper.specs.Doing.{IsOutcomeAt}
use Rattle.node_keeper.specs.Objects.{objects_of}
use Rattle.node_keeper.specs.Resending.{IsAskedAgain, sendings_again}
use Rattle.node_keeper.specs.Sendings.{sent_growth}
use Rattle.node_keeper.specs.declared.delivered.Begun.{Begun}
use Rattle.node_keeper.specs.declared.delivered.Delivered.{Delivered}
use Rattle.node_keeper.specs.declared.delivered.Delivered.TheVariants as delivered
use Rattle.node_keeper.specs.declared.keeper.Keeper.{Keeper}
use Rattle.writable.specs.Keepers.{HasFitOwn, IsFitKeeper, IsFitNamed, IsLeftFit, IsShortName}

-- a call of an object with a short name begins, or its object refuses it
abbrev pub BegunKeepersAreFit : Type 0
BegunKeepersAreFit = (old new : Keeper) (before after : Work) (begun : Begun) (name : List ℕ) → IsFitKeeper old →
    IsShortName name → ((asks_all : Bool) → BeginsCall (reading_call name asks_all) old before new after begun →
    IsLeftFit before new after)
    × ((value : List ℕ) → BeginsCall (writing_call name value) old before new after begun →
    IsLeftFit before new after)
    × ((layout : Layout) → IsFitLayout layout → BeginsCall (moving_call name layout) old before new after begun →
    IsLeftFit before new after)

-- if a letter ended a call, the value that its client is told is not too long
abbrev pub TellsShort : Delivered → Type 0
TellsShort (delivered.Ended ended) = IsShortEnded ended
TellsShort result = ⊤

-- a fit letter from a node whose number is a byte is delivered
abbrev pub DeliveredKeepersAreFit : Type 0
DeliveredKeepersAreFit = (old new : Keeper) (asker : ℕ) (it : NamedLetter) (before after : Work) (told : Delivered) →
    IsFitKeeper old → asker < 2 ^ 8 → IsFitNamed it → DeliversLetter asker it old before new after told →
    IsLeftFit before new after × TellsShort told

-- a call of an object with a short name asks again
abbrev pub AskedKeepersAreFit : Type 0
AskedKeepersAreFit = (old new : Keeper) (name : List ℕ) (id : ℕ) → IsFitKeeper old →
    (IsAskedAgain old name id new → IsFitKeeper new)
    × ((asks_all : Bool) (before after : Work) → IsShortName name →
    IsGrown before after (sent_growth old.ids.node old.digest (sendings_again name id asks_all old)) →
    HasFitOwn before → HasFitOwn after)

-- a call is given up
abbrev pub GivenUpKeepersAreFit : Type 0
GivenUpKeepersAreFit = (old new : Keeper) (name : List ℕ) (id : ℕ) → IsFitKeeper old →
    IsOutcomeAt old.objects name (give_up_events (objects_of old.objects name) id) new.objects [] → KeepsRest old new →
    IsFitKeeper new
