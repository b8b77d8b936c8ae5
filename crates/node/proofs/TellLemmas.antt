-- Answers to clients, as what a node does.
use Rattle.std.proofs.Common.{[], ℕ, List, OnOk, Result, refl}
use Rattle.std.proofs.lemmas.Result.{on_ok_weaker}
use Rattle.deeds.specs.Named.{NamedLetter as Named}
use Rattle.node_effects.specs.Work.{no_growth}
use Rattle.node_effects.specs.declared.work.Work.{Work}
use Rattle.node_effects.proofs.GrowthLemmas.{grown_none}
use Rattle.node_clients.specs.Answers.{TellsClients}
use Rattle.node_keeper.specs.Acts.{Acts}
use Rattle.node_keeper.specs.declared.keeper.Keeper.{Keeper}
use Rattle.node_keeper.proofs.ActLemmas.{acts_more, acts_rest}

-- a node that tells clients something keeps what it kept, and sends nothing
pub tells_acts : (asker : ℕ) (got : List Named) (keeper : Keeper) (before after : Work) → TellsClients before after →
    Acts asker got keeper before keeper after
tells_acts asker got keeper before after tells =
    acts_rest asker got keeper before after (record no_growth { to_clients = tells.frames; due = tells.due }) tells.grown
    refl refl refl

-- a node that acts, and then tells clients something
pub acts_and_tells : {T E : Type 0} (r : Result T E) (old new : Keeper) (first between last : Work) →
    ((asker : ℕ) → Acts asker [] old first new between) → OnOk r (TellsClients between last) →
    OnOk r ((asker : ℕ) → Acts asker [] old first new last)
acts_and_tells r old new first between last acts tells =
    on_ok_weaker r
    (λ told asker. acts_more asker [] old new new first between last (acts asker) (tells_acts asker [] new between last told)) tells

-- a node that does nothing
pub idle : (asker : ℕ) (got : List Named) (keeper : Keeper) (work : Work) → Acts asker got keeper work keeper work
idle asker got keeper work = acts_rest asker got keeper work work no_growth (grown_none work) refl refl refl
