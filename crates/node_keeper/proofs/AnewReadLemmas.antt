-- The entries of a log that is written anew are read back as their records.
use Rattle.std.proofs.Common.{◌==◌, ℕ, zero, suc, Bool, true, false, cond, List, [], ◌∷◌, ◌++◌, map}
use Rattle.std.specs.List.{AllByRecursion}
use Rattle.letter.specs.declared.letter.Letter.{Letter}
use Rattle.local_object.specs.Local.{LocalObject, Place}
use Rattle.deeds.specs.Kept.{KeptNode}
use Rattle.object_letters.specs.Closing.{is_closed}
use Rattle.object_letters.specs.Letters.{letters_as}
use Rattle.open_calls.proofs.ListLemmas.{all_append}
use Rattle.recoveries.specs.Records.{LogRecord}
use Rattle.recoveries.specs.RewrittenRecords.{close_records, closes_records, epoch_records, object_records}
use Rattle.recoveries.specs.RewrittenRecords.{place_records, places_records, records_of_name}
use Rattle.node_keeper.specs.Fitting.{IsLoggable}
use Rattle.node_keeper.specs.Logging.{IsReadBack}
use Rattle.node_keeper.proofs.AnewLemmas.{all_first, all_second, records_at}
use Rattle.node_keeper.proofs.ReadLemmas.{close_read, hear_read, serve_read, start_read}

epochs_read : (digest : List ℕ) (count : ℕ) → AllByRecursion (IsReadBack digest) (epoch_records count)
epochs_read digest zero = tt
epochs_read digest (suc count) = (start_read digest, epochs_read digest count)

letters_read : (digest name : List ℕ) (letters : List Letter) →
    AllByRecursion (IsLoggable digest) (map (LogRecord.Serves name) letters) →
    AllByRecursion (IsReadBack digest) (map (LogRecord.Serves name) letters)
letters_read digest name [] all = tt
letters_read digest name (letter ∷ letters) all =
    (serve_read digest (record { name = name; letter = letter }) all.0, letters_read digest name letters all.1)

-- a position that the object of a name has heard of, if it is one of which there is a record
place_read : (digest name : List ℕ) (place : Place) → AllByRecursion (IsLoggable digest) (place_records name place) →
    AllByRecursion (IsReadBack digest) (place_records name place)
place_read digest name place all = go (place.position == 0) all
  where
    those : Bool → List LogRecord
    those b = cond b [] (LogRecord.Hears name place.position place.layout ∷ [])

    go : (b : Bool) → AllByRecursion (IsLoggable digest) (those b) → AllByRecursion (IsReadBack digest) (those b)
    go true all = tt
    go false all = (hear_read digest name place.position place.layout all.0, tt)

-- all positions that it has heard of
places_read : (digest name : List ℕ) (places : List Place) → AllByRecursion (IsLoggable digest) (places_records name places) →
    AllByRecursion (IsReadBack digest) (places_records name places)
places_read digest name [] all = tt
places_read digest name (place ∷ places) all =
    let rest = places_records name places in
    all_append (IsReadBack digest) (place_records name place) rest
    (place_read digest name place (all_first (IsLoggable digest) (place_records name place) rest all))
    (places_read digest name places (all_second (IsLoggable digest) (place_records name place) rest all))

-- a bank that is closed, if it is
close_place_read : (digest name : List ℕ) (place : Place) → AllByRecursion (IsLoggable digest) (close_records name place) →
    AllByRecursion (IsReadBack digest) (close_records name place)
close_place_read digest name place all = go (is_closed place.bank) all
  where
    those : Bool → List LogRecord
    those b = cond b (LogRecord.Closes name place.position ∷ []) []

    go : (b : Bool) → AllByRecursion (IsLoggable digest) (those b) → AllByRecursion (IsReadBack digest) (those b)
    go true all = (close_read digest name place.position all.0, tt)
    go false all = tt

-- all banks that are closed
closes_read : (digest name : List ℕ) (places : List Place) → AllByRecursion (IsLoggable digest) (closes_records name places) →
    AllByRecursion (IsReadBack digest) (closes_records name places)
closes_read digest name [] all = tt
closes_read digest name (place ∷ places) all =
    let rest = closes_records name places in
    all_append (IsReadBack digest) (close_records name place) rest
    (close_place_read digest name place (all_first (IsLoggable digest) (close_records name place) rest all))
    (closes_read digest name places (all_second (IsLoggable digest) (close_records name place) rest all))

-- all records of the object of a name
name_read : (digest : List ℕ) (node : ℕ) (name : List ℕ) (local : LocalObject) →
    AllByRecursion (IsLoggable digest) (records_of_name node name local) →
    AllByRecursion (IsReadBack digest) (records_of_name node name local)
name_read digest node name local all =
    let fits = IsLoggable digest in
    let first = places_records name local.places in
    let letters = map (LogRecord.Serves name) (letters_as node local) in
    let closes = closes_records name local.places in
    let rest = all_second fits first (letters ++ closes) all in
    all_append (IsReadBack digest) first (letters ++ closes)
    (places_read digest name local.places (all_first fits first (letters ++ closes) all))
    (all_append (IsReadBack digest) letters closes
    (letters_read digest name (letters_as node local) (all_first fits letters closes rest))
    (closes_read digest name local.places (all_second fits letters closes rest)))

objects_read : (digest : List ℕ) (node : KeptNode) (names : List (List ℕ)) →
    AllByRecursion (IsLoggable digest) (object_records node names) → AllByRecursion (IsReadBack digest) (object_records node names)
objects_read digest node [] all = tt
objects_read digest node (name ∷ names) all =
    let rest = object_records node names in
    all_append (IsReadBack digest) (records_at node name) rest
    (name_read digest node.ids.node name (node.objects name) (all_first (IsLoggable digest) (records_at node name) rest all))
    (objects_read digest node names (all_second (IsLoggable digest) (records_at node name) rest all))

pub anew_read : (digest : List ℕ) (node : KeptNode) (names : List (List ℕ)) →
    AllByRecursion (IsLoggable digest) (object_records node names) →
    AllByRecursion (IsReadBack digest) (epoch_records node.ids.epoch ++ object_records node names)
anew_read digest node names all =
    all_append (IsReadBack digest) (epoch_records node.ids.epoch) (object_records node names)
    (epochs_read digest node.ids.epoch) (objects_read digest node names all)
