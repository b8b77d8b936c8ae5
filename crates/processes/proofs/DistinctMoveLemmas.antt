-- No two moves in the log of a process have the same id, and a node that runs gave them all before.
use Rattle.std.proofs.Common.{◌≡◌, ◌<◌, ◌≤◌, ◌+◌, ◌^◌, ℕ, suc, Bool, true, false, cond, List, [], ◌∷◌, ◌++◌, map, length, take, drop}
use Rattle.std.proofs.Common.{Option, None, Some, Result, Ok, Err, eqb, eqb-true, refl, sym, subst, ap, ◌∙◌, arith}
use Rattle.std.proofs.lemmas.List.{append-nil, take-append-drop}
use Rattle.std.specs.Prelude.{nat_eq}
use Rattle.std.specs.List.{AllByRecursion, IsDistinct}
use Rattle.encoder.specs.Fragment.{fragment}
use Rattle.deeds.specs.CallId.{HasRanges}
use Rattle.deeds.specs.Kept.{FileOfNames, KeptNode, new_node}
use Rattle.open_calls.proofs.ListLemmas.{all_append, all_weaker}
use Rattle.recoveries.specs.LoggedIds.{HaveLoggedIds, epochs_in, moves_in}
use Rattle.recoveries.specs.OwnCalls.{WasGiven}
use Rattle.recoveries.specs.Records.{LogRecord, Recovers, RecoversOne}
use Rattle.recoveries.specs.Stops.{sent_in}
use Rattle.recoveries.proofs.LoggedLemmas.{started_epoch, started_given as none_given}
use Rattle.recoveries.proofs.LoggedMoveLemmas.{distinct_none, logged_differ, logged_later, moves_were_given}
use Rattle.recoveries.proofs.RewrittenIdLemmas.{epochs_append, moves_append}
use Rattle.node_strings.specs.Strings.{Strings}
use Rattle.node_effects.specs.Seen.{all_seen}
use Rattle.node_effects.specs.Work.{entries_in}
use Rattle.node_effects.specs.declared.effects.Effects.{Effects}
use Rattle.node_keeper.specs.Keeping.{kept_of}
use Rattle.node_keeper.specs.Wants.{left_by, records_in}
use Rattle.node_keeper.specs.declared.keeper.Keeper.{Keeper}
use Rattle.node_keeper.proofs.IdLemmas.{handled_within}
use Rattle.node.specs.Anew.{AreAnew}
use Rattle.node.specs.Frames.{letters_in}
use Rattle.node.specs.Handles.{Handles as HandlesFrame}
use Rattle.node.specs.Recovering.{Notes as NotesLength}
use Rattle.node.specs.Starts.{start_entries}
use Rattle.node.specs.declared.node.Node.{Node}
use Rattle.processes.specs.Events.{AreAnewIf, MayStart, found_log, handled_process, rewritten_process, started_process}
use Rattle.processes.specs.Processes.{Process}
use Rattle.processes.proofs.LogLemmas.{all_recorded, all_records, all_records_append, anew_recorded, entries_wanted, some_is}
use Rattle.processes.proofs.LogLemmas.{start_recorded}
use Rattle.processes.proofs.MoveIdLemmas.{AreBehindEpochs, AreGiven, IsApart, both_behind, both_distinct, first_behind}
use Rattle.processes.proofs.MoveIdLemmas.{first_distinct, given_since, logged_behind, none_behind, started_given}
use Rattle.processes.proofs.ReadLogLemmas.{AreFirst, new_carried, number_kept, own_started}

-- the node of this number began as many epochs as these records say, and gave the ids of their moves
pub record GaveIds (number : ℕ) (node : Node) (records : List LogRecord) : Type 0 where
  pub number_is : node.keeper.ids.node ≡ number
  pub within : HasRanges node.keeper.ids
  pub epoch : node.keeper.ids.epoch ≡ epochs_in records
  pub given : AreGiven node.keeper.ids records

-- no two moves that these records say began have the same id, each is behind the record of its epoch, and the node gave
-- them, if one runs
pub record HaveDistinctMoves (number : ℕ) (running : Option Node) (records : List LogRecord) : Type 0 where
  pub distinct : IsDistinct nat_eq (moves_in records)
  pub behind : AreBehindEpochs number 0 records
  pub runs : (node : Node) → running ≡ Some node → GaveIds number node records

-- so it is of the log of a process
abbrev pub HasDistinctMoves : (number : ℕ) → Process → Type 0
HasDistinctMoves number process = HaveDistinctMoves number process.running (all_records process.log)

-- first records are like all of them, if no node runs
first_moves : (number : ℕ) (running : Option Node) (first rest : List LogRecord) →
    HaveDistinctMoves number running (first ++ rest) → HaveDistinctMoves number None first
first_moves number running first rest are = record {
  distinct = first_distinct (moves_in first) (moves_in rest)
      (subst (IsDistinct nat_eq) (moves_append first rest) are.distinct);
  behind = first_behind number 0 first rest are.behind;
  runs = λ node e. absurd (cc);
}

-- Starts

one_epoch : (one : LogRecord) (old new : KeptNode) → RecoversOne one old new →
    new.ids.epoch ≡ old.ids.epoch + epochs_in (one ∷ [])
one_epoch LogRecord.Starts old new is = let next = started_epoch old new is in omega arith
one_epoch (LogRecord.Serves name letter) old new is = let same = is.put.epoch in omega arith
one_epoch (LogRecord.Takes name letter) old new is = let same = is.put.epoch in omega arith
one_epoch (LogRecord.Moves name id layout) old new is = let same = is.put.epoch in omega arith
one_epoch (LogRecord.Hears name position layout) old new is = let same = is.put.epoch in omega arith
one_epoch (LogRecord.Closes name position) old new is = let same = is.put.epoch in omega arith

recovered_epoch : (records : List LogRecord) (old new : KeptNode) → Recovers records old new →
    new.ids.epoch ≡ old.ids.epoch + epochs_in records
recovered_epoch [] old new same = let e = same.epoch in omega arith
recovered_epoch (one ∷ records) old new is =
    let first = one_epoch one old is.0 is.1 in
    let rest = recovered_epoch records is.0 new is.2 in
    let both = epochs_append (one ∷ []) records in omega arith

-- a node starts behind these records, when as many epochs had begun
starts_behind : (number : ℕ) (records : List LogRecord) (copy after : Node) → HaveDistinctMoves number None records →
    copy.keeper.ids.epoch ≡ epochs_in records → after.keeper.ids.node ≡ number →
    after.keeper.ids.epoch ≡ suc copy.keeper.ids.epoch → HasRanges after.keeper.ids →
    HaveDistinctMoves number (Some after) (records ++ LogRecord.Starts ∷ [])
starts_behind number records copy after are began own next within =
    let no_more : moves_in (records ++ LogRecord.Starts ∷ []) ≡ moves_in records =
    moves_append records (LogRecord.Starts ∷ []) ∙ append-nil (moves_in records) in
    let count : epochs_in (records ++ LogRecord.Starts ∷ []) ≡ epochs_in records + 1 =
    epochs_append records (LogRecord.Starts ∷ []) in record {
      distinct = subst (IsDistinct nat_eq) (sym no_more) are.distinct;
      behind = both_behind number 0 records (LogRecord.Starts ∷ []) are.behind tt;
      runs = λ node e. subst (λ (n : Node). GaveIds number n (records ++ LogRecord.Starts ∷ [])) (some_is after node e)
          (record {
            number_is = own;
            within = within;
            epoch = omega arith;
            given = subst (AllByRecursion (WasGiven after.keeper.ids)) (sym no_more)
                (started_given number 0 after.keeper.ids records own within (omega arith) are.behind);
          });
    }

module _ (names : FileOfNames) (number : ℕ) (process : Process) (read : List Strings) (anew : Option (List Strings))
    (new copy after : Node) (may : MayStart names number process read anew new copy after) (first : AreFirst process read)
    (is : HasDistinctMoves number process) where
  -- what is read is like the log
  pub read_moves : HaveDistinctMoves number None (all_records read)
  read_moves =
      let parts : process.log ≡ read ++ drop (length read) process.log =
      sym (take-append-drop (length read) process.log) ∙ ap (λ (es : List Strings). es ++ drop (length read) process.log) first.those in
      first_moves number process.running (all_records read) (all_records (drop (length read) process.log))
      (subst (HaveDistinctMoves number process.running)
      (ap all_records parts ∙ all_records_append read (drop (length read) process.log)) is)

  copy_epoch : copy.keeper.ids.epoch ≡ epochs_in (all_records read)
  copy_epoch =
      let epoch : copy.keeper.ids.epoch ≡ 0 + epochs_in (all_records read) =
      recovered_epoch (all_records read) (new_node names number) (kept_of copy.keeper)
      (new_carried names number process read anew new copy after may) in omega arith

  found_moves : (o : Option (List Strings)) → anew ≡ o → HaveDistinctMoves number None (all_records (found_log read o))
      × (copy.keeper.ids.epoch ≡ epochs_in (all_records (found_log read o)))
  found_moves None e = (read_moves, copy_epoch)
  found_moves (Some entries) e =
      let rewritten : AreAnew copy entries = subst (AreAnewIf copy) e may.rewritten in
      let those = anew_recorded copy entries rewritten in
      let none : moves_in (all_records entries) ≡ [] = ap moves_in those ∙ rewritten.moves in (
        record {
          distinct = subst (IsDistinct nat_eq) (sym none) distinct_none;
          behind = none_behind number 0 (all_records entries) none;
          runs = λ node e. absurd (cc);
        },
        sym (ap epochs_in those ∙ rewritten.epochs),
      )

  pub started_moves : HasDistinctMoves number (started_process process read anew copy after)
  started_moves =
      let found = found_moves anew refl in
      let log = found_log read anew in
      let next = started_epoch (kept_of copy.keeper) (kept_of after.keeper) may.started in
      let more = may.started.more in
      let none = none_given (kept_of copy.keeper) (kept_of after.keeper) may.started in
      let within : HasRanges after.keeper.ids =
      (subst (λ e. e < 2 ^ 24) (sym next) more, subst (λ n. n ≤ 2 ^ 32) (sym none) (omega arith)) in
      subst (HaveDistinctMoves number (Some after))
      (sym (all_records_append log (start_entries copy) ∙ ap (λ rs. all_records log ++ rs) (start_recorded copy)))
      (starts_behind number (all_records log) copy after found.0 found.1
      (own_started names number process read anew new copy after may).number_is next within)

-- What a node that runs does

-- the node gave more ids, as more records say
gave_more : (number : ℕ) (old new : Node) (records more : List LogRecord) → HaveDistinctMoves number (Some old) records →
    HasRanges new.keeper.ids → HaveLoggedIds old.keeper.ids more new.keeper.ids →
    HaveDistinctMoves number (Some new) (records ++ more)
gave_more number old new records more are within ids =
    let before = old.keeper.ids in
    let after = new.keeper.ids in
    let gave = are.runs old refl in
    let differ = logged_differ before after more gave.within ids in
    let later = logged_later before after more gave.within within ids in
    let apart : AllByRecursion (IsApart (moves_in more)) (moves_in records) =
    all_weaker (WasGiven before) (IsApart (moves_in more)) differ.1 (moves_in records) gave.given in
    let count = epochs_append records more in
    let began = gave.epoch in
    let behind : before.epoch ≡ 0 + epochs_in records = omega arith in
    let rose = differ.2 in record {
      distinct = subst (IsDistinct nat_eq) (sym (moves_append records more))
          (both_distinct (moves_in records) (moves_in more) are.distinct differ.0 apart);
      behind = both_behind number 0 records more are.behind
          (subst (λ e. AreBehindEpochs number e more) behind (logged_behind number before after more gave.number_is gave.within ids));
      runs = λ node e. subst (λ (n : Node). GaveIds number n (records ++ more)) (some_is new node e)
          (record {
            number_is = later.node ∙ gave.number_is;
            within = within;
            epoch = omega arith;
            given = subst (AllByRecursion (WasGiven after)) (sym (moves_append records more))
                (all_append (WasGiven after) (moves_in records) (moves_in more)
                (given_since before after (moves_in records) later gave.given)
                (moves_were_given before after more gave.within within ids));
          });
    }

pub handled_moves : (number : ℕ) (process : Process) (old after : Node) (frame : Strings) (effects : Effects) →
    process.running ≡ Some old → HandlesFrame old frame effects after → HasDistinctMoves number process →
    HasDistinctMoves number (handled_process process effects after)
handled_moves number process old after frame effects runs handles is =
    let records = records_in handles.wants in
    let entries = entries_in effects.outputs.items in
    let those : all_records entries ≡ records =
    ap (λ os. all_records (entries_in os)) handles.outputs
    ∙ ap all_records (entries_wanted old.keeper.ids.node old.keeper.digest handles.wants)
    ∙ all_recorded old.keeper.digest records handles.read in
    let within = handled_within fragment (kept_of old.keeper) (letters_in old.keeper frame) (kept_of after.keeper)
    (sent_in (left_by handles.wants)) (all_seen effects.notices.items) handles.handled.handled in
    subst (HaveDistinctMoves number (Some after))
    (sym (all_records_append process.log entries ∙ ap (λ rs. all_records process.log ++ rs) those))
    (gave_more number old after (all_records process.log) records
    (subst (λ (o : Option Node). HaveDistinctMoves number o (all_records process.log)) runs is) within handles.ids)

pub noted_moves : (number bytes : ℕ) (process : Process) (old after : Node) → process.running ≡ Some old →
    NotesLength old bytes after → HasDistinctMoves number process →
    HasDistinctMoves number (record process { running = Some after })
noted_moves number bytes process old after runs notes is = record {
  distinct = is.distinct;
  behind = is.behind;
  runs = λ node e.
      let gave = is.runs old runs in
      let keeper : after.keeper ≡ old.keeper = ap (λ (n : Node). n.keeper) notes in
      subst (λ (n : Node). GaveIds number n (all_records process.log)) (some_is after node e)
      (record {
        number_is = ap (λ (k : Keeper). k.ids.node) keeper ∙ gave.number_is;
        within = subst (λ (k : Keeper). HasRanges k.ids) (sym keeper) gave.within;
        epoch = ap (λ (k : Keeper). k.ids.epoch) keeper ∙ gave.epoch;
        given = subst (λ (k : Keeper). AreGiven k.ids (all_records process.log)) (sym keeper) gave.given;
      });
}

-- a log that is written anew has no move
pub rewritten_moves : (number : ℕ) (process : Process) (node : Node) (entries : List Strings) → process.running ≡ Some node →
    AreAnew node entries → HasDistinctMoves number process → HasDistinctMoves number (rewritten_process process entries)
rewritten_moves number process node entries runs anew is =
    let those = anew_recorded node entries anew in
    let none : moves_in (all_records entries) ≡ [] = ap moves_in those ∙ anew.moves in record {
      distinct = subst (IsDistinct nat_eq) (sym none) distinct_none;
      behind = none_behind number 0 (all_records entries) none;
      runs = λ other e.
          let gave = is.runs other e in
          let same : node ≡ other = some_is node other (sym runs ∙ e) in record {
            number_is = gave.number_is;
            within = gave.within;
            epoch = ap (λ (n : Node). n.keeper.ids.epoch) (sym same) ∙ sym (ap epochs_in those ∙ anew.epochs);
            given = subst (AllByRecursion (WasGiven other.keeper.ids)) (sym none) tt;
          };
    }
