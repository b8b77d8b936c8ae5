-- The contracts that docs/trusted.md lists do not depend on this file; other contracts and proofs do.
-- The records of a log that is written anew.
use Rattle.std.specs.Prelude.{ℕ, zero, suc, ◌==◌, Bool, true, false, if◌then◌else◌, List, [], ◌∷◌, ◌++◌, map}
use Rattle.deeds.specs.Kept.{KeptNode}
use Rattle.deeds.specs.Named.{is_same_name}
use Rattle.local_object.specs.Local.{LocalObject, Place}
use Rattle.object_letters.specs.Closing.{is_closed}
use Rattle.object_letters.specs.Letters.{letters_as}
use Rattle.recoveries.specs.Records.{LogRecord}

-- whether a name is one of these
abbrev pub is_among : (names : List (List ℕ)) → (name : List ℕ) → Bool
is_among [] name = false
is_among (first ∷ names) name = if is_same_name first name then true else is_among names name

-- so many epochs begin
abbrev pub epoch_records : (count : ℕ) → List LogRecord
epoch_records zero = []
epoch_records (suc count) = LogRecord.Starts ∷ epoch_records count

-- the node hears of the position of a place of the object of this name, unless it is position 0
abbrev pub place_records : (name : List ℕ) → Place → List LogRecord
place_records name place =
    if place.position == 0 then [] else LogRecord.Hears name place.position place.layout ∷ []

-- the node hears of the positions of these places
abbrev pub places_records : (name : List ℕ) → List Place → List LogRecord
places_records name [] = []
places_records name (place ∷ places) = place_records name place ++ places_records name places

-- the node closes its bank of a place of the object of this name, if the bank of the place is closed
abbrev pub close_records : (name : List ℕ) → Place → List LogRecord
close_records name place = if is_closed place.bank then LogRecord.Closes name place.position ∷ [] else []

-- the node closes its banks of these places
abbrev pub closes_records : (name : List ℕ) → List Place → List LogRecord
closes_records name [] = []
closes_records name (place ∷ places) = close_records name place ++ closes_records name places

-- the node of this number hears of the positions of an object, serves the letters that lead to its banks, and closes
-- those that the object has closed
abbrev pub records_of_name : (node : ℕ) → (name : List ℕ) → LocalObject → List LogRecord
records_of_name node name local =
    places_records name local.places
    ++ (map (LogRecord.Serves name) (letters_as node local) ++ closes_records name local.places)

-- the records of the objects of these names
abbrev pub object_records : KeptNode → (names : List (List ℕ)) → List LogRecord
object_records node [] = []
object_records node (name ∷ names) =
    records_of_name node.ids.node name (node.objects name) ++ object_records node names

-- the records of what a node keeps, where it has heard of the objects of these names
abbrev pub rewritten_records : KeptNode → (names : List (List ℕ)) → List LogRecord
rewritten_records node names = epoch_records node.ids.epoch ++ object_records node names
