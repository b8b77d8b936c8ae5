-- The entries of a log that is written anew.
use Rattle.std.proofs.Common.{◌≡◌, ◌<◌, ◌+◌, ℕ, zero, suc, List, [], ◌∷◌, ◌++◌, map, take, length, add-one}
use Rattle.std.proofs.Common.{Some, Result, Ok, Err, OnOk, slice_get, get_or, append_assoc, refl, sym, subst, ap, ◌∙◌}
use Rattle.std.proofs.lemmas.List.{append-nil, map-append}
use Rattle.std.proofs.lemmas.Option.{slice_get-get_or}
use Rattle.std.specs.List.{AllByRecursion}
use Rattle.letter.specs.declared.letter.Letter.{Letter}
use Rattle.deeds.specs.Kept.{KeptNode}
use Rattle.open_calls.proofs.ListLemmas.{all_append}
use Rattle.node_effects.specs.Errors.{WritesOrFails}
use Rattle.node_effects.specs.declared.error.NodeError.{NodeError}
use Rattle.node_effects.proofs.ErrorLemmas.{start_fits}
use Rattle.node_keeper.specs.Objects.{heard_names}
use Rattle.recoveries.specs.Records.{LogRecord}
use Rattle.recoveries.specs.RewrittenRecords.{epoch_records, object_records}
use Rattle.recoveries.specs.RewrittenRecords.{records_of_name}
use Rattle.node_strings.specs.Strings.{Strings}
use Rattle.node_keeper.specs.Anew.{name_records}
use Rattle.node_keeper.specs.Fitting.{IsLoggable}
use Rattle.node_keeper.specs.Keeping.{kept_of}
use Rattle.node_keeper.specs.Logging.{log_entry_of}
use Rattle.node_keeper.specs.declared.keeper.Keeper.{Keeper}
use Rattle.node_keeper.proofs.FittingLemmas.{unwritten_more}

pub all_first : {A : Type 0} (P : A → Type 0) (xs ys : List A) → AllByRecursion P (xs ++ ys) → AllByRecursion P xs
all_first P [] ys all = tt
all_first P (x ∷ xs) ys all = (all.0, all_first P xs ys all.1)

pub all_second : {A : Type 0} (P : A → Type 0) (xs ys : List A) → AllByRecursion P (xs ++ ys) → AllByRecursion P ys
all_second P [] ys all = all
all_second P (x ∷ xs) ys all = all_second P xs ys all.1

-- Records, one after another

pub entries_more : (digest : List ℕ) (before now after : List Strings) (records more : List LogRecord) →
    now ≡ before ++ map (log_entry_of digest) records → after ≡ now ++ map (log_entry_of digest) more →
    after ≡ before ++ map (log_entry_of digest) (records ++ more)
entries_more digest before now after records more first second =
    let entry = log_entry_of digest in
    second ∙ ap (λ (xs : List Strings). xs ++ map entry more) first
    ∙ append_assoc before (map entry records) (map entry more)
    ∙ ap (λ (xs : List Strings). before ++ xs) (sym (map-append entry records more))

-- one more letter was logged
pub letters_push : (digest name : List ℕ) (before now after : List Strings) (done : List Letter) (letter : Letter) →
    (now ≡ before ++ map (log_entry_of digest) (map (LogRecord.Serves name) done)) ×
    AllByRecursion (IsLoggable digest) (map (LogRecord.Serves name) done) →
    after ≡ now ++ log_entry_of digest (LogRecord.Serves name letter) ∷ [] → IsLoggable digest (LogRecord.Serves name letter) →
    (after ≡ before ++ map (log_entry_of digest) (map (LogRecord.Serves name) (done ++ letter ∷ []))) ×
    AllByRecursion (IsLoggable digest) (map (LogRecord.Serves name) (done ++ letter ∷ []))
letters_push digest name before now after done letter held added fits =
    subst (λ (records : List LogRecord).
    (after ≡ before ++ map (log_entry_of digest) records) × AllByRecursion (IsLoggable digest) records)
    (sym (map-append (LogRecord.Serves name) done (letter ∷ []))) (
      entries_more digest before now after (map (LogRecord.Serves name) done) (LogRecord.Serves name letter ∷ []) held.0 added,
      all_append (IsLoggable digest) (map (LogRecord.Serves name) done) (LogRecord.Serves name letter ∷ []) held.1 (fits, tt),
    )

pub epochs_push : (count : ℕ) → epoch_records (suc count) ≡ epoch_records count ++ LogRecord.Starts ∷ []
epochs_push zero = refl
epochs_push (suc count) = ap (λ (rs : List LogRecord). LogRecord.Starts ∷ rs) (epochs_push count)

-- the records of an object
abbrev pub records_at : KeptNode → (name : List ℕ) → List LogRecord
records_at node name = records_of_name node.ids.node name (node.objects name)

objects_push : (node : KeptNode) (names : List (List ℕ)) (name : List ℕ) →
    object_records node (names ++ name ∷ []) ≡ object_records node names ++ records_at node name
objects_push node [] name = append-nil (records_at node name)
objects_push node (first ∷ names) name =
    ap (λ (rs : List LogRecord). records_at node first ++ rs) (objects_push node names name)
    ∙ sym (append_assoc (records_at node first) (object_records node names) (records_at node name))

take_at : (names : List (List ℕ)) (i : ℕ) (name : List ℕ) → slice_get names i ≡ Some name →
    take (suc i) names ≡ take i names ++ name ∷ []
take_at [] i name at = absurd (cc)
take_at (first ∷ names) zero name at = let same : first ≡ name = cc in ap (λ (n : List ℕ). n ∷ []) same
take_at (first ∷ names) (suc i) name at = ap (λ (ns : List (List ℕ)). first ∷ ns) (take_at names i name at)

pub objects_more : (node : KeptNode) (names : List (List ℕ)) (i : ℕ) (name : List ℕ) → slice_get names i ≡ Some name →
    object_records node (take (suc i) names) ≡ object_records node (take i names) ++ records_at node name
objects_more node names i name at =
    ap (object_records node) (take_at names i name at) ∙ objects_push node (take i names) name

-- one more object
pub objects_step : (keeper : Keeper) (i : ℕ) (name : List ℕ) (before now after : List Strings) →
    slice_get (heard_names keeper.objects) i ≡ Some name →
    now ≡ before ++ map (log_entry_of keeper.digest) (object_records (kept_of keeper) (take i (heard_names keeper.objects))) →
    after ≡ now ++ map (log_entry_of keeper.digest) (name_records name keeper) →
    after ≡ before ++ map (log_entry_of keeper.digest) (object_records (kept_of keeper) (take (i + 1) (heard_names keeper.objects)))
objects_step keeper i name before now after at first second =
    let node = kept_of keeper in
    let names = heard_names keeper.objects in
    entries_more keeper.digest before now after (object_records node (take i names)) (name_records name keeper) first second
    ∙ ap (λ (rs : List LogRecord). before ++ map (log_entry_of keeper.digest) rs) (sym (objects_more node names i name at))
    ∙ ap (λ n. before ++ map (log_entry_of keeper.digest) (object_records node (take n names))) (sym (add-one i))

pub objects_fit : (keeper : Keeper) (i : ℕ) (name : List ℕ) → slice_get (heard_names keeper.objects) i ≡ Some name →
    AllByRecursion (IsLoggable keeper.digest) (object_records (kept_of keeper) (take i (heard_names keeper.objects))) →
    AllByRecursion (IsLoggable keeper.digest) (name_records name keeper) →
    AllByRecursion (IsLoggable keeper.digest) (object_records (kept_of keeper) (take (i + 1) (heard_names keeper.objects)))
objects_fit keeper i name at first second =
    let node = kept_of keeper in
    let names = heard_names keeper.objects in
    subst (λ n. AllByRecursion (IsLoggable keeper.digest) (object_records node (take n names))) (sym (add-one i))
    (subst (λ (rs : List LogRecord). AllByRecursion (IsLoggable keeper.digest) rs) (sym (objects_more node names i name at))
    (all_append (IsLoggable keeper.digest) (object_records node (take i names)) (name_records name keeper) first second))

-- one more epoch
pub epochs_step : (digest : List ℕ) (count : ℕ) (before now after : List Strings) →
    now ≡ before ++ map (log_entry_of digest) (epoch_records count) →
    after ≡ now ++ log_entry_of digest LogRecord.Starts ∷ [] →
    after ≡ before ++ map (log_entry_of digest) (epoch_records (count + 1))
epochs_step digest count before now after first second =
    entries_more digest before now after (epoch_records count) (LogRecord.Starts ∷ []) first second
    ∙ ap (λ (rs : List LogRecord). before ++ map (log_entry_of digest) rs) (sym (epochs_push count))
    ∙ ap (λ n. before ++ map (log_entry_of digest) (epoch_records n)) (sym (add-one count))

pub epochs_fit : (digest : List ℕ) (count : ℕ) → AllByRecursion (IsLoggable digest) (epoch_records count)
epochs_fit digest zero = tt
epochs_fit digest (suc count) = (record { message = tt; entry = start_fits }, epochs_fit digest count)

-- Results

pub on_map : {T E P Q : Type 0} (result : Result T E) → OnOk result P → (P → Q) → OnOk result Q
on_map (Ok x) p f = f p
on_map (Err e) p f = p

pub writes_rest : {T : Type 0} (digest : List ℕ) (first rest : List LogRecord) (result : Result T NodeError) →
    AllByRecursion (IsLoggable digest) first → WritesOrFails (AllByRecursion (IsLoggable digest) rest) result →
    WritesOrFails (AllByRecursion (IsLoggable digest) (first ++ rest)) result
writes_rest digest first rest (Ok x) fits is = all_append (IsLoggable digest) first rest fits is
writes_rest digest first rest (Err e) fits is =
    unwritten_more (AllByRecursion (IsLoggable digest) rest) (AllByRecursion (IsLoggable digest) (first ++ rest))
    (λ all. all_second (IsLoggable digest) first rest all) e is

-- Records that fit

pub object_part : (P : LogRecord → Type 0) (node : KeptNode) (names : List (List ℕ)) (i : ℕ) (name : List ℕ) →
    slice_get names i ≡ Some name → AllByRecursion P (object_records node names) → AllByRecursion P (records_at node name)
object_part P node [] i name at all = absurd (cc)
object_part P node (first ∷ names) zero name at all =
    let same : first ≡ name = cc in
    subst (λ n. AllByRecursion P (records_at node n)) same (all_first P (records_at node first) (object_records node names) all)
object_part P node (first ∷ names) (suc i) name at all =
    object_part P node names i name at (all_second P (records_at node first) (object_records node names) all)

-- the letter at a place of the list fits, if all do
letter_there : (digest name : List ℕ) (letters : List Letter) (i : ℕ) (letter : Letter) → slice_get letters i ≡ Some letter →
    AllByRecursion (IsLoggable digest) (map (LogRecord.Serves name) letters) → IsLoggable digest (LogRecord.Serves name letter)
letter_there digest name [] i letter at all = absurd (cc)
letter_there digest name (first ∷ letters) zero letter at all =
    let same : first ≡ letter = cc in subst (λ l. IsLoggable digest (LogRecord.Serves name l)) same all.0
letter_there digest name (first ∷ letters) (suc i) letter at all = letter_there digest name letters i letter at all.1

pub letter_at : (digest name : List ℕ) (letters : List Letter) (i : ℕ) (letter : Letter) →
    (i < length letters) × (letter ≡ get_or letters i letter) →
    AllByRecursion (IsLoggable digest) (map (LogRecord.Serves name) letters) → IsLoggable digest (LogRecord.Serves name letter)
letter_at digest name letters i letter at all =
    letter_there digest name letters i letter
    (slice_get-get_or letters i letter at.0 ∙ ap (λ (l : Letter). Some l) (sym at.1)) all
