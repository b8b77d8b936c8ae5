-- The contracts that docs/trusted.md lists do not depend on this file; other contracts and proofs do.
-- The laws: letters lead back to an object, and all objects of a node are such that they do.
use Rattle.std.specs.Prelude.{◌≡◌, ◌≤◌, ℕ, false, [], Option, Some, IsSome}
use Rattle.std.specs.List.{AllByRecursion, filter}
use Rattle.layout.specs.Layout.{Layout, IsLawful}
use Rattle.bank.specs.Bank.{opened_bank}
use Rattle.encoder.specs.Fragment.{fragment}
use Rattle.record.specs.Legal.{is_move}
use Rattle.local_object.specs.declared.kept_bank.KeptBank.TheVariants as kept
use Rattle.local_object.specs.Local.{LocalObject, bank_here, layout_here, new_local}
use Rattle.local_object.specs.Events.{LocalEvent, done_here}
use Rattle.local_object.specs.Distinct.{KnowsStart}
use Rattle.local_object.specs.Doing.{is_moving}
use Rattle.local_object.specs.May.{MayHappenHere}
use Rattle.local_object.specs.Restarts.{IsKeptHere}
use Rattle.object_letters.specs.Closing.{after_closing_all}
use Rattle.object_letters.specs.Hearing.{after_places}
use Rattle.object_letters.specs.Leading.{HasNextPosition}
use Rattle.object_letters.specs.Letters.{after_letters, letters_to, start_after}
use Rattle.object_letters.specs.Rebuildable.{IsFit, IsRebuildable}

-- all but the banks is as a restart has to keep it, and no bank has served a request
pub record IsBlankOf (moves : Type 0) (local copy : LocalObject) : Type 0 where
  pub node : copy.node ≡ local.node
  pub delta : copy.delta ≡ local.delta
  pub start : copy.start ≤ local.start
  pub reports : copy.reports ≡ []
  pub layouts : (position : ℕ) (layout : Layout) → layout_here copy position ≡ Some layout →
      layout_here local position ≡ Some layout
  pub first : IsSome (layout_here copy 0)
  pub banks : (position member : ℕ) → bank_here copy position member ≡ kept.Open (opened_bank member local.delta 0)
  pub calls : copy.calls ≡ filter (λ call. is_move call.kind) local.calls
  pub mover : moves → (position : ℕ) (layout : Layout) → layout_here local position ≡ Some layout →
      layout_here copy position ≡ Some layout

-- letters lead back to an object, from a copy whose banks have served nothing, if each position has a next one, and if
-- the banks that the object has closed are closed at the end
abbrev pub LettersLeadBack : Type 0
LettersLeadBack = (mover : ℕ) (local copy : LocalObject) → IsRebuildable local →
    AllByRecursion HasNextPosition local.places → IsBlankOf (local.node ≡ mover) local copy →
    IsKeptHere (local.node ≡ mover) local (after_closing_all (after_letters copy (letters_to local)) local.places)

-- such a copy then has the start of the object, if there are letters, and otherwise the start that it had
abbrev pub LettersTellStart : Type 0
LettersTellStart = (mover : ℕ) (local copy : LocalObject) → IsRebuildable local →
    AllByRecursion HasNextPosition local.places → KnowsStart local.places local.start →
    IsBlankOf (local.node ≡ mover) local copy →
    (after_closing_all (after_letters copy (letters_to local)) local.places).start
    ≡ start_after (letters_to local) copy.start local.start

-- a new object, where nothing but position 0 matters, and no move is open
abbrev pub NewIsBlank : Type 0
NewIsBlank = (mover : ℕ) (local : LocalObject) (first : Layout) → layout_here local 0 ≡ Some first →
    is_moving local ≡ false →
    (local.node ≡ mover → (position : ℕ) (layout : Layout) → layout_here local position ≡ Some layout → position ≡ 0) →
    IsBlankOf (local.node ≡ mover) local (new_local local.node local.delta first)

-- a new object that has heard of all positions, where no move is open
abbrev pub HeardIsBlank : Type 0
HeardIsBlank = (mover : ℕ) (local : LocalObject) (first : Layout) → layout_here local 0 ≡ Some first →
    is_moving local ≡ false → IsRebuildable local →
    IsBlankOf (local.node ≡ mover) local (after_places (new_local local.node local.delta first) local.places)

-- a new object is rebuildable
abbrev pub NewIsRebuildable : Type 0
NewIsRebuildable = (node : ℕ) (delta : Option ℕ) (first : Layout) → IsLawful first →
    IsRebuildable (new_local node delta first)

-- whatever a node does with an object, it stays rebuildable
abbrev pub StaysRebuildable : Type 0
StaysRebuildable = (local : LocalObject) (event : LocalEvent) → IsRebuildable local →
    MayHappenHere fragment local event → IsFit event → IsRebuildable (done_here fragment local event).local
