-- What a node does with letters that have come.
use Rattle.std.specs.Prelude.{◌≡◌, ℕ, List}
use Rattle.std.specs.List.{AllByRecursion}
use Rattle.record.specs.Fragments.{Code}
use Rattle.deeds.specs.Named.{NamedLetter}
use Rattle.deeds.specs.Kept.{KeptNode}
use Rattle.deeds.specs.Deeds.{Deed, Notice, after_deeds}
use Rattle.deeds.specs.May.{AreDeedLettersKnown, IsAllowed, MayAllBeDone}
use Rattle.deeds.specs.Ids.{HaveNextIds}

-- the node did some deeds with these letters, which had come, and with letters that it sent to itself; afterwards it
-- keeps this, has sent these letters, and its clients saw these notices
pub record IsHandled (fragment : Code) (old : KeptNode) (got : List NamedLetter) (new : KeptNode)
    (sent : List NamedLetter) (notices : List Notice) : Type 0 where
  pub deeds : List Deed
  pub may : MayAllBeDone fragment old.objects deeds
  pub fed : AreDeedLettersKnown fragment old.objects got deeds
  pub allowed : AllByRecursion (IsAllowed old.ids.node old.file.mover) deeds
  pub ids : HaveNextIds old.ids deeds new.ids
  pub file : new.file ≡ old.file
  pub objects : (name : List ℕ) → new.objects name ≡ (after_deeds fragment old.objects deeds).objects name
  pub letters : sent ≡ (after_deeds fragment old.objects deeds).sent
  pub seen : notices ≡ (after_deeds fragment old.objects deeds).notices
