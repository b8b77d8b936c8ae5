-- The records of the positions that the object of a name has heard of, and of the object.
use Rattle.std.proofs.Common.{◌≡◌, ◌<◌, ◌+◌, ℕ, zero, suc, List, [], ◌∷◌, ◌++◌, map, take, length, get_or}
use Rattle.std.proofs.Common.{Result, Ok, Err, OnOk, sym, subst, ap, ◌∙◌, arith}
use Rattle.std.proofs.lemmas.List.{append-nil, append_assoc, take_more}
use Rattle.std.specs.List.{AllByRecursion}
use Rattle.local_object.specs.Local.{LocalObject, Place}
use Rattle.node_strings.specs.Strings.{Strings}
use Rattle.object_letters.specs.Letters.{letters_as}
use Rattle.open_calls.proofs.ListLemmas.{all_append}
use Rattle.recoveries.specs.Records.{LogRecord}
use Rattle.recoveries.specs.RewrittenRecords.{closes_records, place_records, places_records, records_of_name}
use Rattle.node_keeper.specs.Fitting.{IsLoggable}
use Rattle.node_keeper.specs.Logging.{log_entry_of}
use Rattle.node_keeper.proofs.AnewLemmas.{all_first, all_second, entries_more}

-- one more place
places_push : (name : List ℕ) (places : List Place) (place : Place) →
    places_records name (places ++ place ∷ []) ≡ places_records name places ++ place_records name place
places_push name [] place = append-nil (place_records name place)
places_push name (first ∷ places) place =
    ap (λ (rs : List LogRecord). place_records name first ++ rs) (places_push name places place)
    ∙ sym (append_assoc (place_records name first) (places_records name places) (place_records name place))

-- the entries of one more place, and that they fit
pub places_step : (digest name : List ℕ) (places : List Place) (i : ℕ) (place : Place) → i < length places →
    place ≡ get_or places i place → (before now after : List Strings) →
    (now ≡ before ++ map (log_entry_of digest) (places_records name (take i places))) ×
    AllByRecursion (IsLoggable digest) (places_records name (take i places)) →
    after ≡ now ++ map (log_entry_of digest) (place_records name place) →
    AllByRecursion (IsLoggable digest) (place_records name place) →
    (after ≡ before ++ map (log_entry_of digest) (places_records name (take (i + 1) places))) ×
    AllByRecursion (IsLoggable digest) (places_records name (take (i + 1) places))
places_step digest name places i place less is before now after held added fits =
    let done = places_records name (take i places) in
    let one = place_records name place in
    let all : places_records name (take (i + 1) places) ≡ done ++ one =
    ap (places_records name) (take_more places i place less)
    ∙ ap (λ (p : Place). places_records name (take i places ++ p ∷ [])) (sym is)
    ∙ places_push name (take i places) place in
    subst (λ (records : List LogRecord).
    (after ≡ before ++ map (log_entry_of digest) records) × AllByRecursion (IsLoggable digest) records) (sym all)
    (entries_more digest before now after done one held.0 added, all_append (IsLoggable digest) done one held.1 fits)

-- the records of each place fit, if all do
pub places_part : (P : LogRecord → Type 0) (name : List ℕ) (places : List Place) (i : ℕ) (place : Place) →
    i < length places → AllByRecursion P (places_records name places) →
    AllByRecursion P (place_records name (get_or places i place))
places_part P name [] i place less all = absurd (omega arith)
places_part P name (first ∷ places) zero place less all =
    all_first P (place_records name first) (places_records name places) all
places_part P name (first ∷ places) (suc i) place less all =
    places_part P name places i place (omega arith)
    (all_second P (place_records name first) (places_records name places) all)

-- the entries of an object: those of its positions, then those of its letters, and then those of its closed banks
pub object_appended : {T E : Type 0} (digest name : List ℕ) (node : ℕ) (local : LocalObject)
    (before mid now after : List Strings) (result : Result T E) →
    mid ≡ before ++ map (log_entry_of digest) (places_records name local.places) →
    now ≡ mid ++ map (log_entry_of digest) (map (LogRecord.Serves name) (letters_as node local)) →
    OnOk result (after ≡ now ++ map (log_entry_of digest) (closes_records name local.places)) →
    OnOk result (after ≡ before ++ map (log_entry_of digest) (records_of_name node name local))
object_appended digest name node local before mid now after (Ok x) first second third =
    let letters = map (LogRecord.Serves name) (letters_as node local) in
    entries_more digest before mid after (places_records name local.places) (letters ++ closes_records name local.places) first
    (entries_more digest mid now after letters (closes_records name local.places) second third)
object_appended digest name node local before mid now after (Err e) first second third = third
