-- A process that starts, and one whose log is written anew, as what the node of the cluster beside it does.
use Rattle.std.proofs.Common.{◌≡◌, ◌⊎◌, inl, inr, ◌<◌, ◌+◌, ℕ, Bool, true, false, List, ◌++◌}
use Rattle.std.proofs.Common.{length, take, ltb, Option, None, Some, refl, sym, subst, ap, ◌∙◌, arith}
use Rattle.std.proofs.lemmas.Bool.{ltb-true, ltb-false}
use Rattle.std.proofs.lemmas.List.{append-nil, length-append, take-append-le, take-take, take_all}
use Rattle.deeds.specs.Deeds.{Notice}
use Rattle.deeds.specs.Kept.{FileOfNames, KeptNode, new_node}
use Rattle.deeds.specs.Named.{NamedLetter as Named}
use Rattle.deeds.specs.Restarts.{IsRestarted}
use Rattle.recoveries.specs.Copies.{IsRecorded}
use Rattle.recoveries.specs.Records.{Recovers}
use Rattle.recoveries.specs.OwnCalls.{HasOwnCalls}
use Rattle.recoveries.proofs.OwnCallLemmas.{restarted_own_calls}
use Rattle.recoveries.proofs.RunLemmas.{recovered_restarted}
use Rattle.node_strings.specs.Strings.{Strings}
use Rattle.node_keeper.specs.Keeping.{kept_of}
use Rattle.node.specs.declared.node.Node.{Node}
use Rattle.node.specs.Anew.{AreAnew}
use Rattle.node.specs.Starts.{start_entries}
use Rattle.node.proofs.AnewLemmas.{own_distinct}
use Rattle.processes.specs.Events.{MayStart, rewritten_process, started_process}
use Rattle.processes.specs.Processes.{Process}
use Rattle.processes.proofs.FateLemmas.{AllRemain, AreSafe, SomeAreLost, all_safe, loses, as_remain_or_lost, remaining}
use Rattle.processes.proofs.FateLemmas.{most_remain}
use Rattle.processes.proofs.LogLemmas.{apart, some_is, take_beyond}
use Rattle.processes.proofs.LogLemmas.{all_records, all_records_append, anew_recorded, start_cut}
use Rattle.processes.proofs.LogLemmas.{start_recorded}
use Rattle.processes.proofs.ReadLogLemmas.{AreFirst, new_carried, own_started, rewritten_whole, started_whole}
use Rattle.processes.proofs.StandingLemmas.{IsOwnNode, Stands, left_in}

module _ (names : FileOfNames) (number : ℕ) (later : Option ℕ) (process : Process) (kept : KeptNode) (letters : List Named)
    (notices : List Notice) (found : List Strings) (new copy after : Node)
    (is : Stands names number (Some (remaining later (length found))) process kept letters notices)
    (first : AreFirst process found) (may : MayStart names number process found None new copy after) where
  abbrev count : ℕ
  count = length found

  abbrev more : List Strings
  more = start_entries copy

  abbrev then : Process
  then = started_process process found None copy after

  long : length (found ++ more) ≡ count + length more
  long = length-append found more

  recovers : Recovers (all_records found) (new_node names number) (kept_of copy.keeper)
  recovers = new_carried names number process found None new copy after may

  runs_then : (next : Node) → Some after ≡ Some next → IsOwnNode number next
  runs_then next same =
      subst (IsOwnNode number) (some_is after next same) (own_started names number process found None new copy after may)

  -- what remained of the log before the start
  left_before : left_in (Some (remaining later count)) process ≡ remaining later count
  left_before = loses (remaining later count) (length process.log)
      (let most = first.most in let few = most_remain later count in omega arith)

  -- if all entries remain, the node of the cluster starts again too
  wholly : AllRemain later (length (found ++ more)) →
      IsRestarted kept (kept_of after.keeper) × Stands names number later then (kept_of after.keeper) letters notices
  wholly all =
      let all_found : remaining later count ≡ count = all count (let e = long in omega arith) in
      let all_then : left_in later then ≡ length (found ++ more) = all (length (found ++ more)) (omega arith) in
      let before : IsRecorded (new_node names number) (all_records found) kept =
      subst (λ (es : List Strings). IsRecorded (new_node names number) (all_records es) kept) first.those
      (subst (λ n. IsRecorded (new_node names number) (all_records (take n process.log)) kept) (left_before ∙ all_found) is.recorded) in
      let again = recovered_restarted (new_node names number) kept (kept_of copy.keeper) (kept_of after.keeper) (all_records found)
      before recovers may.started in (
        again.0,
        record {
          recorded = subst (λ rs. IsRecorded (new_node names number) rs (kept_of after.keeper))
              (sym (ap all_records
              (ap (λ n. take n (found ++ more)) all_then ∙ take_all (length (found ++ more)) (found ++ more) (omega arith))
              ∙ all_records_append found more ∙ ap (λ rs. all_records found ++ rs) (start_recorded copy)))
              again.1;
          alive = λ next runs_as e. ap (λ (n : Node). kept_of n.keeper) (sym (some_is after next runs_as));
          runs = runs_then;
          frames = tt;
          answers = tt;
          sound = started_whole names number process found None new copy after first may;
          own_calls = restarted_own_calls kept (kept_of after.keeper) again.0 is.own_calls;
          file = again.0.file ∙ is.file;
        },
      )

  -- if some will be lost, the start is lost too
  lost_start : SomeAreLost later (length (found ++ more)) →
      all_records (take (left_in later then) (found ++ more))
      ≡ all_records (take (left_in (Some (remaining later count)) process) process.log) →
      Stands names number later then kept letters notices
  lost_start lost same = record {
    recorded = subst (λ rs. IsRecorded (new_node names number) rs kept) (sym same) is.recorded;
    alive = λ next runs_as e. absurd (
        let less = lost.less in
        let f : left_in later then ≡ lost.most = lost.above (length (found ++ more)) (omega arith) in
        omega arith
        );
    runs = runs_then;
    frames = tt;
    answers = tt;
    sound = started_whole names number process found None new copy after first may;
    own_calls = is.own_calls;
    file = is.file;
  }

  partly : (lost : SomeAreLost later (length (found ++ more))) → Stands names number later then kept letters notices
  partly lost = lost_start lost (go (ltb lost.most count) refl)
    where
      less : lost.most < length (found ++ more)
      less = lost.less

      left_then : left_in later then ≡ lost.most
      left_then = lost.above (length (found ++ more)) (let l = less in omega arith)

      go : (b : Bool) → ltb lost.most count ≡ b → all_records (take (left_in later then) (found ++ more))
          ≡ all_records (take (left_in (Some (remaining later count)) process) process.log)
      go true e =
          let few = ltb-true lost.most count e in
          ap all_records (ap (λ n. take n (found ++ more)) left_then
          ∙ take-append-le lost.most found more (omega arith) ∙ ap (take lost.most) (sym first.those)
          ∙ take-take lost.most count process.log (omega arith)
          ∙ ap (λ n. take n process.log) (sym (left_before ∙ lost.above count (omega arith))))
      go false e =
          let le = ltb-false lost.most count e in
          let m = apart count lost.most le in
          let f : length (found ++ more) ≡ count + length more = long in
          let n : lost.most ≡ count + m.0 = m.1 in
          let l : lost.most < length (found ++ more) = less in
          ap all_records (ap (λ k. take k (found ++ more)) (left_then ∙ m.1) ∙ take_beyond found more m.0)
          ∙ all_records_append found (take m.0 more)
          ∙ ap (λ rs. all_records found ++ rs) (start_cut copy m.0 (omega arith))
          ∙ append-nil (all_records found) ∙ ap all_records (sym first.those)
          ∙ ap (λ k. all_records (take k process.log)) (sym (left_before ∙ lost.below count le))

  pub started_stands : Stands names number later then kept letters notices
      ⊎ (IsRestarted kept (kept_of after.keeper) × Stands names number later then (kept_of after.keeper) letters notices)
  started_stands = as_remain_or_lost later (length (found ++ more)) wholly partly

-- a log that is written anew records the same
pub rewritten_stands : (names : FileOfNames) (number : ℕ) (later : Option ℕ) (process : Process) (kept : KeptNode)
    (letters : List Named) (notices : List Notice) (node : Node) (entries : List Strings) →
    Stands names number None process kept letters notices → process.running ≡ Some node → AreAnew node entries →
    AreSafe later (length entries) → Stands names number later (rewritten_process process entries) kept letters notices
rewritten_stands names number later process kept letters notices node entries is runs anew safe =
    let same = is.alive node runs refl in
    let left : remaining later (length entries) ≡ length entries = all_safe later (length entries) safe in
    let file = ap (λ (k : KeptNode). k.file) same ∙ is.file in record {
      recorded = subst (λ rs. IsRecorded (new_node names number) rs kept)
          (sym (ap (λ n. all_records (take n entries)) left ∙ ap all_records (take_all (length entries) entries (omega arith))
          ∙ anew_recorded node entries anew))
          (subst (λ f. IsRecorded (new_node f number) anew.records kept) file
          (subst (λ n. IsRecorded (new_node (kept_of node.keeper).file n) anew.records kept) (is.runs node runs).number_is
          (subst (λ k. IsRecorded (new_node (kept_of node.keeper).file node.keeper.ids.node) anew.records k) same
          (anew.recorded (is.runs node runs).own
          (own_distinct node (subst (λ k. HasOwnCalls k) (sym same) is.own_calls))))));
      alive = λ next runs_as e. is.alive next runs_as refl;
      runs = is.runs;
      frames = tt;
      answers = tt;
      sound = rewritten_whole process node entries anew;
      own_calls = is.own_calls;
      file = is.file;
    }
