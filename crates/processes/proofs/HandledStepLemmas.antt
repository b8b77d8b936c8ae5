-- A frame that a node of a process handles, as what the node of the cluster beside it does.
use Rattle.std.proofs.Common.{◌≡◌, ◌⊎◌, inl, inr, ◌<◌, ◌≤◌, ◌+◌, ℕ, Bool, true, false, List, [], ◌∷◌, ◌++◌}
use Rattle.std.proofs.Common.{length, map, take, ltb, Option, Some, refl, sym, subst, ap, ◌∙◌, arith}
use Rattle.std.proofs.lemmas.Bool.{ltb-true, ltb-false}
use Rattle.std.proofs.lemmas.List.{append-nil, take-append-le, take_all}
use Rattle.std.specs.List.{AllByRecursion, filter}
use Rattle.encoder.specs.Fragment.{fragment}
use Rattle.deeds.specs.Deeds.{Notice}
use Rattle.deeds.specs.Handled.{IsHandled}
use Rattle.deeds.specs.Kept.{FileOfNames, KeptNode, new_node}
use Rattle.deeds.specs.Named.{NamedLetter as Named, IsOneOf}
use Rattle.deeds.proofs.IdLemmas.{ids_node}
use Rattle.deeds.proofs.NameLemmas.{one_of_first, one_of_second}
use Rattle.open_calls.proofs.ListLemmas.{all_append}
use Rattle.recoveries.specs.Copies.{IsLogged, IsRecorded}
use Rattle.recoveries.specs.Records.{LogRecord}
use Rattle.recoveries.specs.Stops.{IsOnTheWay, sent_in}
use Rattle.recoveries.proofs.OwnCallLemmas.{handled_own_calls}
use Rattle.recoveries.proofs.RunLemmas.{more_recorded}
use Rattle.node_strings.specs.Strings.{Strings}
use Rattle.node_effects.specs.Work.{entries_in}
use Rattle.node_effects.specs.declared.effects.Effects.{Effects}
use Rattle.node_keeper.specs.Keeping.{kept_of}
use Rattle.node_keeper.specs.Logging.{log_entry_of}
use Rattle.node_keeper.specs.Sendings.{letters_of}
use Rattle.node_keeper.specs.Wants.{Want, left_by, records_in, sends_in}
use Rattle.node_keeper.proofs.WantLemmas.{left_append, left_sent}
use Rattle.node.specs.declared.node.Node.{Node}
use Rattle.node.specs.Frames.{letters_in}
use Rattle.node.specs.Handles.{Handles}
use Rattle.node.proofs.AnewLemmas.{handled_frames}
use Rattle.processes.specs.Events.{handled_process, is_told, noticed_by}
use Rattle.processes.specs.Processes.{Process, WaitingAnswers, frames_behind}
use Rattle.processes.proofs.HandledFrameLemmas as frames
use Rattle.processes.proofs.LogLemmas.{apart, some_is, take_beyond}
use Rattle.processes.proofs.FateLemmas.{AllRemain, SomeAreLost, remain_or_lost}
use Rattle.processes.proofs.LogLemmas.{all_records, all_records_append, all_recorded, first_recorded}
use Rattle.processes.proofs.StandingLemmas.{HandlesBeside}
use Rattle.processes.proofs.StandingLemmas.{IsAmong}
use Rattle.processes.proofs.StandingLemmas.{AnswersStand, FrameStands, IsOwnNode, Stands, among_filtered}
use Rattle.processes.proofs.StandingLemmas.{among_first, among_second, answers_stand, frames_stand, left_in}
use Rattle.processes.proofs.WantLemmas.{until, until_all, until_front}
use Rattle.processes.proofs.WantLemmas.{until_records, wanted_records}

module _ (names : FileOfNames) (number : ℕ) (fate : Option ℕ) (process : Process) (kept : KeptNode) (letters : List Named)
    (notices : List Notice) (node after : Node) (frame : Strings) (effects : Effects)
    (is : Stands names number fate process kept letters notices) (runs : process.running ≡ Some node)
    (handles : Handles node frame effects after) where
  abbrev wants : List Want
  wants = handles.wants

  abbrev records : List LogRecord
  records = records_in handles.wants

  abbrev digest : List ℕ
  digest = node.keeper.digest

  abbrev log : List Strings
  log = process.log

  abbrev more : List Strings
  more = entries_in effects.outputs.items

  abbrev then : Process
  then = handled_process process effects after

  more_are : more ≡ map (log_entry_of digest) records
  more_are = frames.more_are process node after frame effects handles

  long : length (log ++ more) ≡ length log + length records
  long = frames.long process node after frame effects handles

  longer : length log ≤ length (log ++ more)
  longer = frames.longer process node after frame effects handles

  new_frames : (count left : ℕ) (all : List Named) → left ≤ length log + count →
      ((letter : Named) → IsOneOf (letters_of (sends_in (until count wants))) letter → IsOneOf all letter) →
      AllByRecursion (FrameStands (length (log ++ more)) left all) (frames_behind (length log) effects.outputs.items)
  new_frames = frames.new_frames process node after frame effects handles

  runs_on : (next : Node) → Some after ≡ Some next → IsOwnNode number next
  runs_on next same = subst (IsOwnNode number) (some_is after next same) (record {
    number_is = ids_node node.keeper.ids after.keeper.ids handles.handled.handled.deeds handles.handled.handled.ids
        ∙ (is.runs node runs).number_is;
    own = handled_frames node after frame effects handles (is.runs node runs).own;
  })

  -- what waited before and waits now
  all_frames : (left : ℕ) (all : List Named) → ((behind : ℕ) → behind ≤ length log → behind ≤ left → behind ≤ left_in fate process) →
      ((letter : Named) → IsOneOf letters letter → IsOneOf all letter) →
      AllByRecursion (FrameStands (length (log ++ more)) left all) (frames_behind (length log) effects.outputs.items) →
      AllByRecursion (FrameStands (length (log ++ more)) left all) then.frames
  all_frames left all reach among new =
      all_append (FrameStands (length (log ++ more)) left all) process.frames (frames_behind (length log) effects.outputs.items)
      (frames_stand (length log) (left_in fate process) (length (log ++ more)) left letters all longer reach among process.frames is.frames)
      new

  all_answers : (left : ℕ) (all : List Notice) → ((behind : ℕ) → behind ≤ length log → behind ≤ left → behind ≤ left_in fate process) →
      ((notice : Notice) → IsAmong notices notice → IsAmong all notice) →
      (length (log ++ more) ≤ left → (notice : Notice) → IsAmong (filter is_told (noticed_by effects)) notice → IsAmong all notice) →
      AllByRecursion (AnswersStand (length (log ++ more)) left all) then.answers
  all_answers left all reach among new =
      let now : WaitingAnswers = record {
        behind = length (log ++ more);
        frames = effects.answers.items;
        told = filter is_told (noticed_by effects);
      } in
      all_append (AnswersStand (length (log ++ more)) left all) process.answers (now ∷ [])
      (answers_stand (length log) (left_in fate process) (length (log ++ more)) left notices all longer reach among process.answers
      is.answers)
      ((omega arith, new), tt)

  -- the entries from before record what the node of the cluster keeps, if all of them remain
  before : left_in fate process ≡ length log → IsRecorded (new_node names number) (all_records log) kept
  before e =
      subst (λ (es : List Strings). IsRecorded (new_node names number) (all_records es) kept)
      (ap (λ n. take n log) e ∙ take_all (length log) log (omega arith)) is.recorded

  wholly : AllRemain fate (length (log ++ more)) →
      HandlesBeside names number fate then kept (letters_in node.keeper frame) letters notices (noticed_by effects)
  wholly all =
      let all_before : left_in fate process ≡ length log = all (length log) longer in
      let all_then : left_in fate then ≡ length (log ++ more) = all (length (log ++ more)) (omega arith) in
      let same = is.alive node runs all_before in
      let sent = sent_in (left_by wants) in
      let told = noticed_by effects in
      let did : IsHandled fragment kept (letters_in node.keeper frame) (kept_of after.keeper) sent told =
      subst (λ k. IsHandled fragment k (letters_in node.keeper frame) (kept_of after.keeper) sent told) same
      handles.handled.handled in
      let logs : IsLogged kept records (kept_of after.keeper) =
      subst (λ k. IsLogged k records (kept_of after.keeper)) same
      (subst (λ rs. IsLogged (kept_of node.keeper) rs (kept_of after.keeper)) (wanted_records wants) handles.handled.logged) in record {
        after = kept_of after.keeper;
        sent = sent;
        told = told;
        unseen = [];
        handled = did;
        first_seen = sym (append-nil told);
        stands = record {
          recorded = subst (λ rs. IsRecorded (new_node names number) rs (kept_of after.keeper))
              (sym (ap all_records (ap (λ n. take n (log ++ more)) all_then ∙ take_all (length (log ++ more)) (log ++ more) (omega arith))
              ∙ all_records_append log more
              ∙ ap (λ rs. all_records log ++ rs) (ap all_records more_are ∙ all_recorded digest records handles.read)))
              (more_recorded (new_node names number) kept (kept_of after.keeper) (all_records log) records (before all_before) logs);
          alive = λ next runs_as e. ap (λ (n : Node). kept_of n.keeper) (sym (some_is after next runs_as));
          runs = runs_on;
          frames = all_frames (left_in fate then) (letters ++ sent)
              (λ behind within early. subst (λ n. behind ≤ n) (sym all_before) within)
              (λ letter one. one_of_first letters sent letter one)
              (new_frames (length records) (left_in fate then) (letters ++ sent) (let e = all_then in let f = long in omega arith)
              (λ letter one. one_of_second letters sent letter (subst (λ ls. IsOneOf ls letter)
              (ap (λ ws. letters_of (sends_in ws)) (until_all (length records) wants (omega arith)) ∙ sym (left_sent wants)) one)));
          answers = all_answers (left_in fate then) (notices ++ told)
              (λ behind within early. subst (λ n. behind ≤ n) (sym all_before) within)
              (λ notice one. among_first notices told notice one)
              (λ early notice one. among_second notices told notice (among_filtered is_told told notice one));
          sound = frames.handled_whole process node after frame effects handles is.sound;
          own_calls = handled_own_calls kept (kept_of after.keeper) (letters_in node.keeper frame) sent told did is.own_calls;
          file = did.file ∙ is.file;
        };
      }

  -- If some of the new entries will be lost, the node of the cluster comes as far as the others lead
  partly : (lost : SomeAreLost fate (length (log ++ more))) → length log ≤ lost.most →
      HandlesBeside names number fate then kept (letters_in node.keeper frame) letters notices (noticed_by effects)
  partly lost le =
      let all_before : left_in fate process ≡ length log = lost.below (length log) le in
      let less = lost.less in
      let left_then : left_in fate then ≡ lost.most = lost.above (length (log ++ more)) (omega arith) in
      let m = apart (length log) lost.most le in
      let same = is.alive node runs all_before in
      let first = until m.0 wants in
      let front = until_front m.0 wants in
      let way : IsOnTheWay fragment (kept_of node.keeper) (letters_in node.keeper frame) (left_by first) (noticed_by effects) =
      handles.handled.stops (left_by first) (left_by front.0) (ap left_by front.1 ∙ left_append first front.0) in
      let sent = sent_in (left_by first) ++ way.more in
      let did : IsHandled fragment kept (letters_in node.keeper frame) way.middle sent way.notices =
      subst (λ k. IsHandled fragment k (letters_in node.keeper frame) way.middle sent way.notices) same way.handled in
      let logs : IsLogged kept (take m.0 records) way.middle =
      subst (λ k. IsLogged k (take m.0 records) way.middle) same
      (subst (λ rs. IsLogged (kept_of node.keeper) rs way.middle) (wanted_records first ∙ until_records m.0 wants) way.logged) in record {
        after = way.middle;
        sent = sent;
        told = way.notices;
        unseen = way.unseen;
        handled = did;
        first_seen = way.first_seen;
        stands = record {
          recorded = subst (λ rs. IsRecorded (new_node names number) rs way.middle)
              (sym (ap all_records (ap (λ n. take n (log ++ more)) (left_then ∙ m.1) ∙ take_beyond log more m.0)
              ∙ all_records_append log (take m.0 more)
              ∙ ap (λ rs. all_records log ++ rs)
              (ap (λ (es : List Strings). all_records (take m.0 es)) more_are ∙ first_recorded m.0 digest records handles.read)))
              (more_recorded (new_node names number) kept way.middle (all_records log) (take m.0 records) (before all_before) logs);
          alive = λ next runs_as e. absurd (let f = left_then in omega arith);
          runs = runs_on;
          frames = all_frames (left_in fate then) (letters ++ sent)
              (λ behind within early. subst (λ n. behind ≤ n) (sym all_before) within)
              (λ letter one. one_of_first letters sent letter one)
              (new_frames m.0 (left_in fate then) (letters ++ sent) (let e = left_then in let f = m.1 in omega arith)
              (λ letter one. one_of_second letters sent letter (one_of_first (sent_in (left_by first)) way.more letter
              (subst (λ ls. IsOneOf ls letter) (sym (left_sent first)) one))));
          answers = all_answers (left_in fate then) (notices ++ way.notices)
              (λ behind within early. subst (λ n. behind ≤ n) (sym all_before) within)
              (λ notice one. among_first notices way.notices notice one)
              (λ early. absurd (let e = left_then in omega arith));
          sound = frames.handled_whole process node after frame effects handles is.sound;
          own_calls = handled_own_calls kept way.middle (letters_in node.keeper frame) sent way.notices did is.own_calls;
          file = did.file ∙ is.file;
        };
      }

  -- If entries from before will be lost, the node of the cluster does nothing: it stopped before
  not_at_all : (lost : SomeAreLost fate (length (log ++ more))) → lost.most < length log →
      Stands names number fate then kept letters notices
  not_at_all lost less =
      let left_before : left_in fate process ≡ lost.most = lost.above (length log) (omega arith) in
      let shorter = lost.less in
      let left_then : left_in fate then ≡ lost.most = lost.above (length (log ++ more)) (omega arith) in
      let reach : (behind : ℕ) → behind ≤ length log → behind ≤ left_in fate then → behind ≤ left_in fate process =
      λ behind within early. subst (λ n. behind ≤ n) (left_then ∙ sym left_before) early in record {
        recorded = subst (λ (es : List Strings). IsRecorded (new_node names number) (all_records es) kept)
            (ap (λ n. take n log) left_before ∙ sym (take-append-le lost.most log more (omega arith))
            ∙ ap (λ n. take n (log ++ more)) (sym left_then)) is.recorded;
        alive = λ next runs_as e. absurd (let f = left_then in omega arith);
        runs = runs_on;
        frames = all_frames (left_in fate then) letters reach (λ letter one. one)
            (frames.lost_frames process node after frame effects handles (left_in fate then) letters (let f = left_then in omega arith));
        answers = all_answers (left_in fate then) notices reach (λ notice one. one)
            (λ early. absurd (let e = left_then in omega arith));
        sound = frames.handled_whole process node after frame effects handles is.sound;
        own_calls = is.own_calls;
        file = is.file;
      }

  pub handled_stands : Stands names number fate then kept letters notices
      ⊎ HandlesBeside names number fate then kept (letters_in node.keeper frame) letters notices (noticed_by effects)
  handled_stands = go (remain_or_lost fate (length (log ++ more)))
    where
      some : (lost : SomeAreLost fate (length (log ++ more))) → (b : Bool) → ltb lost.most (length log) ≡ b →
          Stands names number fate then kept letters notices
          ⊎ HandlesBeside names number fate then kept (letters_in node.keeper frame) letters notices (noticed_by effects)
      some lost true e = inl (not_at_all lost (ltb-true lost.most (length log) e))
      some lost false e = inr (partly lost (ltb-false lost.most (length log) e))

      go : AllRemain fate (length (log ++ more)) ⊎ SomeAreLost fate (length (log ++ more)) →
          Stands names number fate then kept letters notices
          ⊎ HandlesBeside names number fate then kept (letters_in node.keeper frame) letters notices (noticed_by effects)
      go (inl all) = inr (wholly all)
      go (inr lost) = some lost (ltb lost.most (length log)) refl
