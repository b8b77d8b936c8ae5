-- A process that starts, and whose log is then written anew, as what the node of the cluster beside it does.
use Rattle.std.proofs.Common.{◌≡◌, ◌⊎◌, inl, inr, ◌≤◌, ◌+◌, ℕ, Bool, true, false, List, [], ◌∷◌, ◌++◌}
use Rattle.std.proofs.Common.{length, take, ltb, Option, Some, refl, sym, subst, ap, ◌∙◌, arith}
use Rattle.std.proofs.lemmas.List.{append-nil, length-append, take_all}
use Rattle.deeds.specs.Deeds.{Notice}
use Rattle.deeds.specs.Kept.{FileOfNames, KeptNode, new_node}
use Rattle.deeds.specs.Named.{NamedLetter as Named}
use Rattle.deeds.specs.Restarts.{IsRestarted}
use Rattle.open_calls.specs.OpenCalls.{NodeCallsDiffer}
use Rattle.local_object.specs.Local.{LocalObject}
use Rattle.recoveries.specs.Copies.{IsCopyOf, IsRecorded}
use Rattle.recoveries.specs.Records.{LogRecord}
use Rattle.recoveries.specs.RewritingNodes.{HasDistinctCalls}
use Rattle.recoveries.proofs.LoggedLemmas.{starts_logged}
use Rattle.recoveries.proofs.OwnCallLemmas.{restarted_own_calls}
use Rattle.recoveries.proofs.RunLemmas.{more_recorded, recovered_restarted}
use Rattle.node_strings.specs.Strings.{Strings}
use Rattle.node_keeper.specs.Keeping.{kept_of}
use Rattle.node.specs.declared.node.Node.{Node}
use Rattle.node.specs.Anew.{AreAnew}
use Rattle.node.specs.Starts.{start_entries}
use Rattle.node.proofs.AnewLemmas.{own_distinct}
use Rattle.processes.specs.Events.{MayStart, started_process}
use Rattle.processes.specs.Processes.{Process}
use Rattle.processes.proofs.CopyLemmas.{copy_twice}
use Rattle.processes.proofs.FateLemmas.{AllRemain, AreSafe, SomeAreLost, all_safe, loses, as_remain_or_lost, remaining}
use Rattle.processes.proofs.LogLemmas.{all_records, all_records_append, anew_recorded, apart, some_is, start_cut, start_recorded}
use Rattle.processes.proofs.LogLemmas.{take_beyond}
use Rattle.processes.proofs.StandingLemmas.{IsOwnNode, Stands, left_in}
use Rattle.processes.proofs.ReadLogLemmas.{AreFirst, copy_own, new_carried, own_started, started_whole}
use Rattle.recoveries.proofs.LoggedLemmas.{started_number}
use Rattle.std.proofs.lemmas.Bool.{ltb-true, ltb-false}

module _ (names : FileOfNames) (number : ℕ) (later : Option ℕ) (process : Process) (kept : KeptNode) (letters : List Named)
    (notices : List Notice) (found entries : List Strings) (new copy after : Node)
    (is : Stands names number (Some (length found)) process kept letters notices) (first : AreFirst process found)
    (may : MayStart names number process found (Some entries) new copy after) (safe : AreSafe later (length entries)) where
  abbrev more : List Strings
  more = start_entries copy

  abbrev then : Process
  then = started_process process found (Some entries) copy after

  long : length (entries ++ more) ≡ length entries + length more
  long = length-append entries more

  runs_then : (next : Node) → Some after ≡ Some next → IsOwnNode number next
  runs_then next same =
      subst (IsOwnNode number) (some_is after next same) (own_started names number process found (Some entries) new copy after may)

  -- the entries that were read record what the node of the cluster keeps
  before : IsRecorded (new_node names number) (all_records found) kept
  before = subst (λ (es : List Strings). IsRecorded (new_node names number) (all_records es) kept)
      (ap (λ n. take n process.log) (loses (length found) (length process.log) first.most) ∙ first.those) is.recorded

  again : IsRestarted kept (kept_of after.keeper)
  again = (recovered_restarted (new_node names number) kept (kept_of copy.keeper) (kept_of after.keeper) (all_records found) before
      (new_carried names number process found (Some entries) new copy after may) may.started).0

  is_copy : IsCopyOf kept (kept_of copy.keeper)
  is_copy = before (kept_of copy.keeper) (new_carried names number process found (Some entries) new copy after may)

  -- the calls of the copy have different ids, since those of the node after the start have
  distinct : HasDistinctCalls (kept_of copy.keeper)
  distinct name =
      subst (λ (local : LocalObject). NodeCallsDiffer local.calls) (may.started.objects name)
      (own_distinct after (restarted_own_calls kept (kept_of after.keeper) again is.own_calls) name)

  -- the new entries record what the copy keeps
  copy_recorded : IsRecorded (new_node names number) (all_records entries) (kept_of copy.keeper)
  copy_recorded =
      let own = own_started names number process found (Some entries) new copy after may in
      let anew : AreAnew copy entries = may.rewritten in
      subst (λ rs. IsRecorded (new_node names number) rs (kept_of copy.keeper)) (sym (anew_recorded copy entries anew))
      (subst (λ f. IsRecorded (new_node f number) anew.records (kept_of copy.keeper)) (is_copy.file ∙ is.file)
      (subst (λ n. IsRecorded (new_node (kept_of copy.keeper).file n) anew.records (kept_of copy.keeper))
      (sym (started_number (kept_of copy.keeper) (kept_of after.keeper) may.started) ∙ own.number_is)
      (anew.recorded (copy_own names number process found (Some entries) new copy after may) distinct)))

  -- if all entries remain, the node of the cluster starts again too
  wholly : AllRemain later (length (entries ++ more)) →
      IsRestarted kept (kept_of after.keeper) × Stands names number later then (kept_of after.keeper) letters notices
  wholly all =
      let all_then : left_in later then ≡ length (entries ++ more) = all (length (entries ++ more)) (omega arith) in (
        again,
        record {
          recorded = subst (λ rs. IsRecorded (new_node names number) rs (kept_of after.keeper))
              (sym (ap all_records
              (ap (λ n. take n (entries ++ more)) all_then ∙ take_all (length (entries ++ more)) (entries ++ more) (omega arith))
              ∙ all_records_append entries more ∙ ap (λ rs. all_records entries ++ rs) (start_recorded copy)))
              (more_recorded (new_node names number) (kept_of copy.keeper) (kept_of after.keeper) (all_records entries)
              (LogRecord.Starts ∷ []) copy_recorded (starts_logged (kept_of copy.keeper) (kept_of after.keeper) may.started));
          alive = λ next runs_as e. ap (λ (n : Node). kept_of n.keeper) (sym (some_is after next runs_as));
          runs = runs_then;
          frames = tt;
          answers = tt;
          sound = started_whole names number process found (Some entries) new copy after first may;
          own_calls = restarted_own_calls kept (kept_of after.keeper) again is.own_calls;
          file = again.file ∙ is.file;
        },
      )

  -- if the entries of the start will be lost, the start is lost too; the new entries record the same as the old ones
  partly : SomeAreLost later (length (entries ++ more)) → Stands names number later then kept letters notices
  partly lost =
      let less = lost.less in
      let left_then : left_in later then ≡ lost.most = lost.above (length (entries ++ more)) (omega arith) in
      let least : length entries ≤ lost.most = below_most lost in
      let m = apart (length entries) lost.most least in
      let f : length (entries ++ more) ≡ length entries + length more = long in
      let n : lost.most ≡ length entries + m.0 = m.1 in record {
        recorded = subst (λ rs. IsRecorded (new_node names number) rs kept)
            (sym (ap all_records (ap (λ k. take k (entries ++ more)) (left_then ∙ m.1) ∙ take_beyond entries more m.0)
            ∙ all_records_append entries (take m.0 more)
            ∙ ap (λ rs. all_records entries ++ rs) (start_cut copy m.0 (omega arith)) ∙ append-nil (all_records entries)))
            (λ other recovers. copy_twice kept (kept_of copy.keeper) other is_copy (copy_recorded other recovers));
        alive = λ next runs_as e. absurd (omega arith);
        runs = runs_then;
        frames = tt;
        answers = tt;
        sound = started_whole names number process found (Some entries) new copy after first may;
        own_calls = is.own_calls;
        file = is.file;
      }
    where
      below_most : (lost : SomeAreLost later (length (entries ++ more))) → length entries ≤ lost.most
      below_most lost = go (ltb lost.most (length entries)) refl
        where
          go : (b : Bool) → ltb lost.most (length entries) ≡ b → length entries ≤ lost.most
          go true e =
              let fewer = ltb-true lost.most (length entries) e in
              let all : remaining later (length entries) ≡ length entries = all_safe later (length entries) safe in
              let cut : remaining later (length entries) ≡ lost.most = lost.above (length entries) (omega arith) in
              omega arith
          go false e = ltb-false lost.most (length entries) e

  pub renewed_stands : Stands names number later then kept letters notices
      ⊎ (IsRestarted kept (kept_of after.keeper) × Stands names number later then (kept_of after.keeper) letters notices)
  renewed_stands = as_remain_or_lost later (length (entries ++ more)) wholly partly
