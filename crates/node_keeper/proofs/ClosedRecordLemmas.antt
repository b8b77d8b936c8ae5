-- The records of the banks that an object has closed.
use Rattle.std.proofs.Common.{◌≡◌, ◌<◌, ◌+◌, ℕ, zero, suc, List, [], ◌∷◌, ◌++◌, map, take, length, get_or}
use Rattle.std.proofs.Common.{sym, subst, ap, ◌∙◌, arith}
use Rattle.std.proofs.lemmas.List.{append-nil, append_assoc, take_more}
use Rattle.std.specs.List.{AllByRecursion}
use Rattle.local_object.specs.Local.{Place}
use Rattle.node_strings.specs.Strings.{Strings}
use Rattle.open_calls.proofs.ListLemmas.{all_append}
use Rattle.recoveries.specs.Records.{LogRecord}
use Rattle.recoveries.specs.RewrittenRecords.{close_records, closes_records}
use Rattle.node_keeper.specs.Fitting.{IsLoggable}
use Rattle.node_keeper.specs.Logging.{log_entry_of}
use Rattle.node_keeper.proofs.AnewLemmas.{all_first, all_second, entries_more}

-- one more place
closes_push : (name : List ℕ) (places : List Place) (place : Place) →
    closes_records name (places ++ place ∷ []) ≡ closes_records name places ++ close_records name place
closes_push name [] place = append-nil (close_records name place)
closes_push name (first ∷ places) place =
    ap (λ (rs : List LogRecord). close_records name first ++ rs) (closes_push name places place)
    ∙ sym (append_assoc (close_records name first) (closes_records name places) (close_records name place))

-- the entries of one more place, and that they fit
pub closes_step : (digest name : List ℕ) (places : List Place) (i : ℕ) (place : Place) → i < length places →
    place ≡ get_or places i place → (before now after : List Strings) →
    (now ≡ before ++ map (log_entry_of digest) (closes_records name (take i places))) ×
    AllByRecursion (IsLoggable digest) (closes_records name (take i places)) →
    after ≡ now ++ map (log_entry_of digest) (close_records name place) →
    AllByRecursion (IsLoggable digest) (close_records name place) →
    (after ≡ before ++ map (log_entry_of digest) (closes_records name (take (i + 1) places))) ×
    AllByRecursion (IsLoggable digest) (closes_records name (take (i + 1) places))
closes_step digest name places i place less is before now after held added fits =
    let done = closes_records name (take i places) in
    let one = close_records name place in
    let all : closes_records name (take (i + 1) places) ≡ done ++ one =
    ap (closes_records name) (take_more places i place less)
    ∙ ap (λ (p : Place). closes_records name (take i places ++ p ∷ [])) (sym is)
    ∙ closes_push name (take i places) place in
    subst (λ (records : List LogRecord).
    (after ≡ before ++ map (log_entry_of digest) records) × AllByRecursion (IsLoggable digest) records) (sym all)
    (entries_more digest before now after done one held.0 added, all_append (IsLoggable digest) done one held.1 fits)

-- the records of each place fit, if all do
pub closes_part : (P : LogRecord → Type 0) (name : List ℕ) (places : List Place) (i : ℕ) (place : Place) →
    i < length places → AllByRecursion P (closes_records name places) →
    AllByRecursion P (close_records name (get_or places i place))
closes_part P name [] i place less all = absurd (omega arith)
closes_part P name (first ∷ places) zero place less all =
    all_first P (close_records name first) (closes_records name places) all
closes_part P name (first ∷ places) (suc i) place less all =
    closes_part P name places i place (omega arith)
    (all_second P (close_records name first) (closes_records name places) all)
