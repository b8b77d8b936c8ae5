-- The contracts that docs/trusted.md lists do not depend on this file; other contracts and proofs do.
-- The laws: a node whose keeper is fit never fails because something that it has to write does not fit.
use Rattle.std.specs.Prelude.{◌≡◌, ◌<◌, ◌^◌, ℕ, Bool, List, Some}
use Rattle.std.specs.List.{AllByRecursion}
use Rattle.fitting.specs.Letters.{IsFitLayout}
use Rattle.layout.specs.Layout.{Layout}
use Rattle.letter.specs.declared.letter.NamedLetter.{NamedLetter}
use Rattle.node_keeper.specs.Anew.{anew_records}
use Rattle.node_keeper.specs.Beginning.{CanBegin, moving_call, reading_call, writing_call}
use Rattle.node_keeper.specs.Delivering.{CanDeliver}
use Rattle.node_keeper.specs.Fitting.{IsLoggable}
use Rattle.node_keeper.specs.NextIds.{next_id_of}
use Rattle.node_keeper.specs.Objects.{heard_names}
use Rattle.node_keeper.specs.Resending.{CanResend}
use Rattle.node_keeper.specs.declared.keeper.Keeper.{Keeper}
use Rattle.writable.specs.Keepers.{IsFitKeeper, IsFitNamed, IsShortName}

-- everything that has to be written when a call of an object with a short name begins can be written
abbrev pub FitKeepersCanBegin : Type 0
FitKeepersCanBegin = (keeper : Keeper) (name : List ℕ) (id : ℕ) → IsFitKeeper keeper → IsShortName name →
    next_id_of keeper.ids ≡ Some id → ((asks_all : Bool) → CanBegin (reading_call name asks_all) id keeper)
    × ((value : List ℕ) → CanBegin (writing_call name value) id keeper)
    × ((layout : Layout) → IsFitLayout layout → CanBegin (moving_call name layout) id keeper)

-- so can everything for a fit letter that has come
abbrev pub FitKeepersCanDeliver : Type 0
FitKeepersCanDeliver = (keeper : Keeper) (asker : ℕ) (it : NamedLetter) → IsFitKeeper keeper → asker < 2 ^ 8 →
    IsFitNamed it → CanDeliver asker it keeper

-- so can each request of a call that asks again, also those to all nodes
abbrev pub FitKeepersCanResend : Type 0
FitKeepersCanResend = (keeper : Keeper) (name : List ℕ) (id : ℕ) (asks_all : Bool) → IsFitKeeper keeper →
    IsShortName name → CanResend name id asks_all keeper

-- so can each record of a rewritten log, if the names of the objects are short
abbrev pub FitKeepersCanRewrite : Type 0
FitKeepersCanRewrite = (keeper : Keeper) → IsFitKeeper keeper →
    AllByRecursion IsShortName (heard_names keeper.objects) →
    AllByRecursion (IsLoggable keeper.digest) (anew_records keeper)
