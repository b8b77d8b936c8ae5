-- Each record of a rewritten log of a fit keeper can go to the log.
use Rattle.std.proofs.Common.{◌≡◌, ◌++◌, ℕ, zero, suc, Bool, true, false, cond, List, [], ◌∷◌, map, length}
use Rattle.std.specs.List.{AllByRecursion}
use Rattle.std.specs.Prelude.{◌==◌}
use Rattle.cluster_file.specs.declared.file.TheConstants.{DIGEST_LENGTH}
use Rattle.deeds.specs.Kept.{KeptNode}
use Rattle.fitting.specs.Letters.{IsFitLetter}
use Rattle.fitting.specs.Objects.{IsFitObject, IsFitPlace}
use Rattle.fitting.proofs.RestoringLemmas.{restoring_fit}
use Rattle.letter.specs.declared.letter.Letter.{Letter}
use Rattle.local_object.specs.Local.{LocalObject, Place}
use Rattle.node_keeper.specs.Fitting.{IsLoggable}
use Rattle.node_keeper.specs.Keeping.{kept_of}
use Rattle.node_keeper.specs.Objects.{heard_names}
use Rattle.object_letters.specs.Closing.{is_closed}
use Rattle.object_letters.specs.Letters.{letters_as}
use Rattle.open_calls.proofs.ListLemmas.{all_append}
use Rattle.recoveries.specs.Records.{LogRecord}
use Rattle.recoveries.specs.RewrittenRecords.{close_records, closes_records, epoch_records, object_records, place_records, places_records}
use Rattle.recoveries.specs.RewrittenRecords.{records_of_name}
use Rattle.writable.specs.Keepers.{IsShortName}
use Rattle.writable.specs.Laws.{FitKeepersCanRewrite}
use Rattle.writable.proofs.SendableLemmas.{closes_loggable, hears_loggable, serves_loggable, starts_loggable}

module _ (digest : List ℕ) (whole : length digest ≡ DIGEST_LENGTH) where
  abbrev AreLoggable : List LogRecord → Type 0
  AreLoggable records = AllByRecursion (IsLoggable digest) records

  epochs_fit : (count : ℕ) → AreLoggable (epoch_records count)
  epochs_fit zero = tt
  epochs_fit (suc count) = (starts_loggable digest whole, epochs_fit count)

  module _ (name : List ℕ) (short : IsShortName name) where
    heard_fit : (all : List Place) (place : Place) → IsFitPlace all place → AreLoggable (place_records name place)
    heard_fit all place is = go (place.position == 0)
      where
        go : (b : Bool) → AreLoggable (cond b [] (LogRecord.Hears name place.position place.layout ∷ []))
        go true = tt
        go false = (hears_loggable digest whole name place.position place.layout short is.position is.layout, tt)

    all_heard : (all places : List Place) → AllByRecursion (IsFitPlace all) places → AreLoggable (places_records name places)
    all_heard all [] is = tt
    all_heard all (place ∷ places) is =
        all_append (IsLoggable digest) (place_records name place) (places_records name places) (heard_fit all place is.0)
        (all_heard all places is.1)

    closed_fit : (all : List Place) (place : Place) → IsFitPlace all place → AreLoggable (close_records name place)
    closed_fit all place is = go (is_closed place.bank)
      where
        go : (b : Bool) → AreLoggable (cond b (LogRecord.Closes name place.position ∷ []) [])
        go true = (closes_loggable digest whole name place.position short is.position, tt)
        go false = tt

    all_closed : (all places : List Place) → AllByRecursion (IsFitPlace all) places → AreLoggable (closes_records name places)
    all_closed all [] is = tt
    all_closed all (place ∷ places) is =
        all_append (IsLoggable digest) (close_records name place) (closes_records name places) (closed_fit all place is.0)
        (all_closed all places is.1)

    all_served : (letters : List Letter) → AllByRecursion IsFitLetter letters → AreLoggable (map (LogRecord.Serves name) letters)
    all_served [] is = tt
    all_served (letter ∷ letters) is = (
      serves_loggable digest whole (record { name = name; letter = letter }) (record { name = short; letter = is.0 }),
      all_served letters is.1,
    )

    name_fit : (node : ℕ) (local : LocalObject) → IsFitObject local → AreLoggable (records_of_name node name local)
    name_fit node local fit =
        let letters = letters_as node local in
        let served : List LogRecord = map (LogRecord.Serves name) letters in
        all_append (IsLoggable digest) (places_records name local.places) (served ++ closes_records name local.places)
        (all_heard local.places local.places fit.places)
        (all_append (IsLoggable digest) served (closes_records name local.places)
        (all_served letters (restoring_fit node local fit)) (all_closed local.places local.places fit.places))

  names_fit : (node : KeptNode) → ((name : List ℕ) → IsFitObject (node.objects name)) → (names : List (List ℕ)) →
      AllByRecursion IsShortName names → AreLoggable (object_records node names)
  names_fit node fit [] short = tt
  names_fit node fit (name ∷ names) short =
      all_append (IsLoggable digest) (records_of_name node.ids.node name (node.objects name)) (object_records node names)
      (name_fit name short.0 node.ids.node (node.objects name) (fit name)) (names_fit node fit names short.1)

pub can_rewrite_fit : FitKeepersCanRewrite
can_rewrite_fit keeper fit short =
    let node = kept_of keeper in
    let names = heard_names keeper.objects in
    all_append (IsLoggable keeper.digest) (epoch_records node.ids.epoch) (object_records node names)
    (epochs_fit keeper.digest fit.digest node.ids.epoch) (names_fit keeper.digest fit.digest node fit.objects names short)
