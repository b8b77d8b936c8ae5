-- What lists of records tell of ids, and what a log tells of them that is written anew.
use Rattle.std.proofs.Common.{◌≡◌, ◌+◌, ℕ, zero, suc, Bool, true, false, cond, ◌==◌, List, [], ◌∷◌, ◌++◌, map}
use Rattle.std.proofs.Common.{refl, ap, ◌∙◌, arith}
use Rattle.letter.specs.declared.letter.Letter.{Letter}
use Rattle.local_object.specs.Local.{Place}
use Rattle.deeds.specs.Kept.{KeptNode}
use Rattle.object_letters.specs.Closing.{is_closed}
use Rattle.object_letters.specs.Letters.{letters_as}
use Rattle.recoveries.specs.LoggedIds.{epochs_in, moves_in}
use Rattle.recoveries.specs.Records.{LogRecord}
use Rattle.recoveries.specs.RewrittenRecords.{close_records, closes_records, epoch_records, object_records, place_records, places_records}
use Rattle.recoveries.specs.RewrittenRecords.{records_of_name, rewritten_records}

-- Records, one after another

pub epochs_append : (xs ys : List LogRecord) → epochs_in (xs ++ ys) ≡ epochs_in xs + epochs_in ys
epochs_append [] ys = omega arith
epochs_append (LogRecord.Starts ∷ xs) ys = ap suc (epochs_append xs ys) ∙ (omega arith)
epochs_append (LogRecord.Serves name letter ∷ xs) ys = epochs_append xs ys
epochs_append (LogRecord.Takes name letter ∷ xs) ys = epochs_append xs ys
epochs_append (LogRecord.Moves name id layout ∷ xs) ys = epochs_append xs ys
epochs_append (LogRecord.Hears name position layout ∷ xs) ys = epochs_append xs ys
epochs_append (LogRecord.Closes name position ∷ xs) ys = epochs_append xs ys

pub moves_append : (xs ys : List LogRecord) → moves_in (xs ++ ys) ≡ moves_in xs ++ moves_in ys
moves_append [] ys = refl
moves_append (LogRecord.Starts ∷ xs) ys = moves_append xs ys
moves_append (LogRecord.Serves name letter ∷ xs) ys = moves_append xs ys
moves_append (LogRecord.Takes name letter ∷ xs) ys = moves_append xs ys
moves_append (LogRecord.Moves name id layout ∷ xs) ys = ap (λ ids. id ∷ ids) (moves_append xs ys)
moves_append (LogRecord.Hears name position layout ∷ xs) ys = moves_append xs ys
moves_append (LogRecord.Closes name position ∷ xs) ys = moves_append xs ys

-- A log that is written anew

-- these records say that so many epochs began, and that no move did
abbrev pub TellsEpochs : (count : ℕ) → List LogRecord → Type 0
TellsEpochs count records = (epochs_in records ≡ count) × (moves_in records ≡ [])

both : (first second : ℕ) (xs ys : List LogRecord) → TellsEpochs first xs → TellsEpochs second ys →
    TellsEpochs (first + second) (xs ++ ys)
both first second xs ys x y =
    let a = x.0 in
    let b = y.0 in
    let c = epochs_append xs ys in
    (omega arith, moves_append xs ys ∙ ap (λ ids. ids ++ moves_in ys) x.1 ∙ y.1)

epochs_told : (count : ℕ) → TellsEpochs count (epoch_records count)
epochs_told zero = (refl, refl)
epochs_told (suc count) = let rest = epochs_told count in (ap suc rest.0, rest.1)

place_told : (name : List ℕ) (place : Place) → TellsEpochs 0 (place_records name place)
place_told name place = go (place.position == 0)
  where
    go : (b : Bool) → TellsEpochs 0 (cond b [] (LogRecord.Hears name place.position place.layout ∷ []))
    go true = (refl, refl)
    go false = (refl, refl)

places_told : (name : List ℕ) (places : List Place) → TellsEpochs 0 (places_records name places)
places_told name [] = (refl, refl)
places_told name (place ∷ places) =
    both 0 0 (place_records name place) (places_records name places) (place_told name place) (places_told name places)

letters_told : (name : List ℕ) (letters : List Letter) → TellsEpochs 0 (map (LogRecord.Serves name) letters)
letters_told name [] = (refl, refl)
letters_told name (letter ∷ letters) = letters_told name letters

close_told : (name : List ℕ) (place : Place) → TellsEpochs 0 (close_records name place)
close_told name place = go (is_closed place.bank)
  where
    go : (b : Bool) → TellsEpochs 0 (cond b (LogRecord.Closes name place.position ∷ []) [])
    go true = (refl, refl)
    go false = (refl, refl)

closes_told : (name : List ℕ) (places : List Place) → TellsEpochs 0 (closes_records name places)
closes_told name [] = (refl, refl)
closes_told name (place ∷ places) =
    both 0 0 (close_records name place) (closes_records name places) (close_told name place) (closes_told name places)

objects_told : (node : KeptNode) (names : List (List ℕ)) → TellsEpochs 0 (object_records node names)
objects_told node [] = (refl, refl)
objects_told node (name ∷ names) =
    let local = node.objects name in
    let letters = map (LogRecord.Serves name) (letters_as node.ids.node local) in
    both 0 0 (records_of_name node.ids.node name local) (object_records node names)
    (both 0 0 (places_records name local.places) (letters ++ closes_records name local.places) (places_told name local.places)
    (both 0 0 letters (closes_records name local.places) (letters_told name (letters_as node.ids.node local))
    (closes_told name local.places))) (objects_told node names)

-- a log that is written anew says that as many epochs began as did, and that no move did
pub rewritten_told : (node : KeptNode) (names : List (List ℕ)) → TellsEpochs node.ids.epoch (rewritten_records node names)
rewritten_told node names =
    let all = both node.ids.epoch 0 (epoch_records node.ids.epoch) (object_records node names) (epochs_told node.ids.epoch)
    (objects_told node names) in
    let count = all.0 in (omega arith, all.1)
