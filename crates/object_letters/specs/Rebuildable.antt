-- Objects whose banks came to be by letters alone, as all objects do that a node keeps.
use Rattle.std.specs.Prelude.{◌≡◌, ◌≢◌, ℕ, List, [], ◌∷◌, Option, None, Some, slice_get}
use Rattle.std.specs.List.{AllByRecursion}
use Rattle.layout.specs.Layout.{Layout, IsLawful}
use Rattle.bank.specs.Bank.{Bank}
use Rattle.object_letters.specs.Reached.{IsReachedBank}
use Rattle.letter.specs.declared.letter.Letter.{Letter}
use Rattle.letter.specs.declared.start.Start.{Start}
use Rattle.local_object.specs.declared.kept_bank.KeptBank.{KeptBank}
use Rattle.local_object.specs.declared.kept_bank.KeptBank.TheVariants as kept
use Rattle.local_object.specs.Local.{LocalObject, Place}
use Rattle.local_object.specs.Events.{LocalEvent}

-- none of the places has this position
abbrev pub AreElsewhere : (position : ℕ) → List Place → Type 0
AreElsewhere position [] = Unit {0}
AreElsewhere position (place ∷ places) = (place.position ≢ position) × AreElsewhere position places

-- no two of the places have the same position
abbrev pub HaveApartPositions : List Place → Type 0
HaveApartPositions [] = Unit {0}
HaveApartPositions (place ∷ places) = AreElsewhere place.position places × HaveApartPositions places

-- a bank of a place was opened for the member that the node is, and has served requests
pub record IsOwnBank (node : ℕ) (delta : Option ℕ) (place : Place) (bank : Bank) : Type 0 where
  pub member : ℕ
  pub named : slice_get place.layout.members member ≡ Some node
  pub limited : bank.delta ≡ delta
  pub reached : IsReachedBank member bank

-- what is kept of a bank of a place is the node's: an open bank was opened for the member that the node is, and has
-- served requests; if it is closed, the node is a member
abbrev pub IsOwnKept : (node : ℕ) → (delta : Option ℕ) → Place → KeptBank → Type 0
IsOwnKept node delta place (kept.Open bank) = IsOwnBank node delta place bank
IsOwnKept node delta place (kept.Closed closed) = (member : ℕ) × (slice_get place.layout.members member ≡ Some node)

-- if a place has a bank, it is the node's
abbrev pub IsOwnIfOpen : (node : ℕ) → (delta : Option ℕ) → Place → Option KeptBank → Type 0
IsOwnIfOpen node delta place None = Unit {0}
IsOwnIfOpen node delta place (Some bank) = IsOwnKept node delta place bank

-- the layout of a place is lawful, and its bank came to be by requests to the node
pub record IsOwnPlace (node : ℕ) (delta : Option ℕ) (place : Place) : Type 0 where
  pub lawful : IsLawful place.layout
  pub own : IsOwnIfOpen node delta place place.bank

-- each position is there once, and all banks came to be by requests to the node
pub record IsRebuildable (local : LocalObject) : Type 0 where
  pub apart : HaveApartPositions local.places
  pub places : AllByRecursion (IsOwnPlace local.node local.delta) local.places

-- a layout is lawful, if there is one
abbrev pub IsLawfulIfThere : Option Layout → Type 0
IsLawfulIfThere None = Unit {0}
IsLawfulIfThere (Some layout) = IsLawful layout

-- the layout of a start is lawful, if there is a start
abbrev pub IsLawfulStart : Option Start → Type 0
IsLawfulStart None = Unit {0}
IsLawfulStart (Some start) = IsLawful start.layout

-- the layouts in a letter are lawful
abbrev pub HasLawfulLayouts : Letter → Type 0
HasLawfulLayouts letter = IsLawful letter.layout × IsLawfulIfThere letter.next × IsLawfulStart letter.start

-- the layouts in the letter of an event are lawful
abbrev pub IsFit : LocalEvent → Type 0
IsFit (LocalEvent.Serve letter) = HasLawfulLayouts letter
IsFit (LocalEvent.Take letter) = HasLawfulLayouts letter
IsFit (LocalEvent.Hear letter) = HasLawfulLayouts letter
IsFit (LocalEvent.Redirect letter) = HasLawfulLayouts letter
IsFit event = Unit {0}
