-- What the entries of a log record, and what a node makes of them.
use Rattle.std.proofs.Common.{◌≡◌, ◌==◌, ◌+◌, ◌<◌, ◌≤◌, ℕ, zero, suc, Bool, true, false, cond, List, [], ◌∷◌, ◌++◌, length, map, take}
use Rattle.std.proofs.Common.{Option, None, Some, refl, sym, subst, ap, ◌∙◌, arith}
use Rattle.std.proofs.lemmas.List.{length-append, take-append-le, take_all}
use Rattle.std.proofs.lemmas.Grind.{flat_map-append}
use Rattle.std.specs.List.{AllByRecursion, flat_map}
use Rattle.node_strings.specs.Record.{record_at, record_strings}
use Rattle.node_strings.specs.declared.record.Record.{Record}
use Rattle.node_strings.specs.declared.record.Record.TheVariants as record_of
use Rattle.node_strings.specs.Strings.{Strings}
use Rattle.node_strings.proofs.RecordLemmas.{record_ok}
use Rattle.recoveries.specs.Records.{LogRecord, Recovers}
use Rattle.recoveries.proofs.NodeCopyLemmas.{same_self}
use Rattle.recoveries.proofs.RecoveredLemmas.{two_recovered}
use Rattle.node_effects.specs.Work.{entries_in, no_growth, one_entry}
use Rattle.node_effects.specs.declared.output.Output.TheVariants as output
use Rattle.node_keeper.specs.Keeping.{kept_of}
use Rattle.node_keeper.specs.Logging.{IsReadBack, deeds_if, log_entry_of, records_in as records_of, start_entry}
use Rattle.node_keeper.specs.Sendings.{frame_to}
use Rattle.node_keeper.specs.Wants.{Want, outputs_of, records_in}
use Rattle.node_keeper.proofs.ReadLemmas.{start_read}
use Rattle.node.specs.declared.node.Node.{Node}
use Rattle.node.specs.Anew.{AreAnew, CarriesOutAll}
use Rattle.node.specs.Recovering.{CarriesOutEntry}
use Rattle.node.specs.Starts.{CanBeNamed, cluster_entry, name_growth, start_entries}
use Rattle.node.proofs.AnewCopyLemmas.{named_deeds}
use Rattle.node_effects.proofs.ErrorLemmas.{start_fits}
use Rattle.node_store.specs.Recovery.{IsWholeEntry}
use Rattle.open_calls.proofs.ListLemmas.{all_append}

-- what these entries record
abbrev pub all_records : List Strings → List LogRecord
all_records log = flat_map records_of log

pub all_records_append : (xs ys : List Strings) → all_records (xs ++ ys) ≡ all_records xs ++ all_records ys
all_records_append xs ys = flat_map-append records_of xs ys

-- Entries that are wanted

-- the entries among what a node puts out are those of the records that it wants
pub entries_wanted : (number : ℕ) (digest : List ℕ) (wants : List Want) →
    entries_in (outputs_of number digest wants) ≡ map (log_entry_of digest) (records_in wants)
entries_wanted number digest [] = refl
entries_wanted number digest (Want.Logs it ∷ wants) = ap (λ es. log_entry_of digest it ∷ es) (entries_wanted number digest wants)
entries_wanted number digest (Want.Sends send ∷ wants) = go (send.to == number) (entries_wanted number digest wants)
  where
    those : List Strings
    those = map (log_entry_of digest) (records_in wants)

    go : (b : Bool) → entries_in (outputs_of number digest wants) ≡ those →
        entries_in (cond b (outputs_of number digest wants)
        (output.Send (frame_to digest send) ∷ outputs_of number digest wants)) ≡ those
    go true rest = rest
    go false rest = rest

-- the first entries of some records record the first records
pub first_recorded : (count : ℕ) (digest : List ℕ) (records : List LogRecord) → AllByRecursion (IsReadBack digest) records →
    all_records (take count (map (log_entry_of digest) records)) ≡ take count records
first_recorded zero digest records read = refl
first_recorded (suc count) digest [] read = refl
first_recorded (suc count) digest (one ∷ records) read =
    ap (λ rs. rs ++ all_records (take count (map (log_entry_of digest) records))) read.0.same
    ∙ ap (λ rs. one ∷ rs) (first_recorded count digest records read.1)

pub all_recorded : (digest : List ℕ) (records : List LogRecord) → AllByRecursion (IsReadBack digest) records →
    all_records (map (log_entry_of digest) records) ≡ records
all_recorded digest [] read = refl
all_recorded digest (one ∷ records) read =
    ap (λ rs. rs ++ all_records (map (log_entry_of digest) records)) read.0.same
    ∙ ap (λ rs. one ∷ rs) (all_recorded digest records read.1)

-- entries that are read back are whole
pub all_whole : (digest : List ℕ) (records : List LogRecord) → AllByRecursion (IsReadBack digest) records →
    AllByRecursion IsWholeEntry (map (log_entry_of digest) records)
all_whole digest [] read = tt
all_whole digest (one ∷ records) read = (read.0.entry, all_whole digest records read.1)

-- The entry that names the cluster and the node

-- it records nothing that the node did
pub cluster_recorded : (digest : List ℕ) (number : ℕ) → records_of (cluster_entry digest number) ≡ []
cluster_recorded digest number = go (record_at (cluster_entry digest number)) refl
  where
    go : (o : Option Record) → record_at (record_strings (record_of.Cluster digest number)) ≡ o → deeds_if o ≡ []
    go None e = refl
    go (Some it) e = named_deeds digest number it (record_ok (record_strings (record_of.Cluster digest number)) it e).1

-- a log that was written anew records what its records say
pub anew_recorded : (node : Node) (entries : List Strings) → (anew : AreAnew node entries) → all_records entries ≡ anew.records
anew_recorded node entries anew =
    ap all_records anew.those
    ∙ ap (λ rs. rs ++ all_records (map (log_entry_of node.keeper.digest) anew.records))
    (cluster_recorded node.keeper.digest node.keeper.ids.node)
    ∙ all_recorded node.keeper.digest anew.records anew.read

-- Starts

-- the entries before that of the start
abbrev naming : Node → List Strings
naming node = entries_in (name_growth node).outputs

naming_recorded : (node : Node) (count : ℕ) → all_records (take count (naming node)) ≡ []
naming_recorded node count = go node.is_named count
  where
    entry : Strings
    entry = cluster_entry node.keeper.digest node.keeper.ids.node

    go : (b : Bool) (n : ℕ) → all_records (take n (entries_in (cond b no_growth (one_entry entry)).outputs)) ≡ []
    go true zero = refl
    go true (suc n) = refl
    go false zero = refl
    go false (suc n) =
        ap (λ rs. rs ++ all_records (take n [])) (cluster_recorded node.keeper.digest node.keeper.ids.node)
        ∙ ap all_records (take_all n [] (omega arith))

-- the entries of a start are whole
pub start_whole : (node : Node) → CanBeNamed node → AllByRecursion IsWholeEntry (start_entries node)
start_whole node named =
    all_append IsWholeEntry (naming node) (start_entry ∷ []) (go node.is_named refl) (start_fits, tt)
  where
    entry : Strings
    entry = cluster_entry node.keeper.digest node.keeper.ids.node

    go : (b : Bool) → node.is_named ≡ b → AllByRecursion IsWholeEntry (entries_in (cond b no_growth (one_entry entry)).outputs)
    go true e = tt
    go false e = (named e, tt)

-- the entries of a log that was written anew are whole
pub anew_whole : (node : Node) (entries : List Strings) → AreAnew node entries → AllByRecursion IsWholeEntry entries
anew_whole node entries anew =
    subst (AllByRecursion IsWholeEntry) (sym anew.those) (anew.named, all_whole node.keeper.digest anew.records anew.read)

-- the entries of a start record that an epoch began
pub start_recorded : (node : Node) → all_records (start_entries node) ≡ LogRecord.Starts ∷ []
start_recorded node =
    all_records_append (naming node) (start_entry ∷ [])
    ∙ ap (λ rs. rs ++ all_records (start_entry ∷ []))
    (ap all_records (sym (take_all (length (naming node)) (naming node) (omega arith))) ∙ naming_recorded node (length (naming node)))
    ∙ ap (λ rs. rs ++ []) (start_read []).same

-- fewer of them record nothing
pub start_cut : (node : Node) (count : ℕ) → count < length (start_entries node) →
    all_records (take count (start_entries node)) ≡ []
start_cut node count less =
    let long = length-append (naming node) (start_entry ∷ []) in
    ap all_records (take-append-le count (naming node) (start_entry ∷ []) (omega arith)) ∙ naming_recorded node count

-- What a node makes of a log

entry_carried : (old new : Node) (entry : Strings) → CarriesOutEntry old entry new →
    Recovers (records_of entry) (kept_of old.keeper) (kept_of new.keeper)
entry_carried old new entry carried =
    subst (λ (rs : List LogRecord). Recovers rs (kept_of old.keeper) (kept_of new.keeper))
    (ap deeds_if (sym carried.read) ∙ ap (λ (s : Strings). deeds_if (record_at s)) (sym carried.whole)) carried.done.recovers

pub log_carried : (old new : Node) (log : List Strings) → CarriesOutAll old log new →
    Recovers (all_records log) (kept_of old.keeper) (kept_of new.keeper)
log_carried old new [] same =
    subst (λ (n : Node). Recovers [] (kept_of old.keeper) (kept_of n.keeper)) (sym same) (same_self (kept_of old.keeper))
log_carried old new (entry ∷ log) carried =
    two_recovered (kept_of old.keeper) (kept_of carried.0.keeper) (kept_of new.keeper) (records_of entry) (all_records log)
    (entry_carried old carried.0 entry carried.1) (log_carried carried.0 new log carried.2)

-- Numbers and lists

-- the difference of two numbers
pub apart : (a b : ℕ) → a ≤ b → (m : ℕ) × (b ≡ a + m)
apart zero b le = (b, omega arith)
apart (suc a) zero le = absurd (omega arith)
apart (suc a) (suc b) le = let rest = apart a b (omega arith) in let e = rest.1 in (rest.0, omega arith)

-- so many first elements of two lists are the first list and some of the second
pub take_beyond : {A : Type 0} (xs ys : List A) (m : ℕ) → take (length xs + m) (xs ++ ys) ≡ xs ++ take m ys
take_beyond [] ys m = ap (λ n. take n ys) (omega arith)
take_beyond (x ∷ xs) ys m =
    ap (λ n. take n (x ∷ (xs ++ ys))) (longer (length xs)) ∙ ap (λ zs. x ∷ zs) (take_beyond xs ys m)
  where
    longer : (n : ℕ) → suc n + m ≡ suc (n + m)
    longer n = omega arith

pub some_is : {A : Type 0} (x y : A) → Some x ≡ Some y → x ≡ y
some_is x y e = cc
