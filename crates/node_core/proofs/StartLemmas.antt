-- A start of a core whose steps are carried out, or cut off.
use Rattle.std.proofs.Common.{◌≡◌, ◌≤◌, inl, inr, ℕ, List, ◌++◌, length, take, None, Some, Ok}
use Rattle.std.proofs.Common.{refl, sym, ap, subst, ◌∙◌, append_assoc, append-nil, arith, length-append}
use Rattle.deeds.specs.Kept.{FileOfNames}
use Rattle.node.specs.Recovering.{CarriesOutEntry}
use Rattle.node.specs.Starts.{start_entries}
use Rattle.node.specs.declared.node.Node.{Node}
use Rattle.node_log.specs.Entry.{first_chain}
use Rattle.node_store.specs.Outputs.{AppendsFront}
use Rattle.node_store.specs.Recovery.{HasRecovered, log_bytes}
use Rattle.node_store.specs.Steps.{AreCarriedOut, IsCarriedOut, Places, Step, StopWithin}
use Rattle.node_store.specs.declared.end.LogEnd.{LogEnd}
use Rattle.node_store.proofs.GrowthLemmas.{keeps_front}
use Rattle.processes.specs.Programs.{IsPartlyCut, IsStoppedStart, StartStage}
use Rattle.node_core.specs.Laws.{CutOffStartsAreStopped, OpenedCoresHaveStarted}
use Rattle.node_core.specs.Opening.{HasOpened}
use Rattle.node_core.specs.Starts.{IsCut, IsStartCutOff, IsStartDone, start_steps}
use Rattle.node_core.specs.declared.opening.Opened.{Opened}
use Rattle.node_core.proofs.CutLemmas.{cut_partly, sync_partly}

-- ---- all steps

-- what the log has after it was cut and synced
after_sync : (count : ℕ) (before cut synced : Places) → IsCut count before cut → IsCarriedOut cut Step.Syncs synced →
    synced.kept ≡ take count before.written
after_sync count before cut synced is sync = sync.2 ∙ sync.1 ∙ is.1

-- what it has at the end
at_end : (entries : List ℕ) (synced after : Places) → AreCarriedOut synced (start_steps entries) after →
    (after.kept ≡ synced.written ++ entries) × (after.kept ≡ after.written) × (after.sent ≡ synced.sent)
at_end entries synced after (p, appended, (q, sync, last)) = (
  ap (λ (t : Places). t.kept) (sym last) ∙ sync.2 ∙ sync.1 ∙ appended.1,
  ap (λ (t : Places). t.kept) (sym last) ∙ sync.2 ∙ ap (λ (t : Places). t.written) last,
  ap (λ (t : Places). t.sent) (sym last) ∙ sync.0 ∙ appended.0,
)

-- so many first bytes of what was found, and the entries of the start
abbrev begun_bytes : (disk : List ℕ) → (count : ℕ) → (entries : List ℕ) → List ℕ
begun_bytes disk count entries = take count disk ++ entries

whole_log : (count : ℕ) (entries : List ℕ) (before after : Places) → IsStartDone count entries before after →
    (after.kept ≡ begun_bytes before.written count entries) × (after.kept ≡ after.written) × (after.sent ≡ before.sent)
whole_log count entries before after (cut, synced, is, sync, appended) =
    let done = at_end entries synced after appended in (
      done.0 ∙ ap (λ (t : List ℕ). t ++ entries) (sync.1 ∙ is.1),
      done.1,
      done.2 ∙ sync.0 ∙ is.0,
    )

pub have_started : OpenedCoresHaveStarted
have_started names number opened before after has done =
    let whole = whole_log opened.length opened.entries before after done in
    let begun = has.begun in
    let kept : after.kept ≡ take has.end.length before.written ++ log_bytes has.end.chain.state (start_entries has.copy) =
    whole.0 ∙ ap (λ (n : ℕ). begun_bytes before.written n opened.entries) begun.stays
    ∙ ap (λ (t : List ℕ). begun_bytes before.written has.end.length t) begun.entries
    in (
      record {
        new = has.read.new;
        copy = has.copy;
        end = has.end;
        then = has.end;
        anew = None;
        kept = Some (take has.end.length before.written);
        is_new = has.read.is_new;
        recovered = has.read.recovered;
        renewed = tt;
        rewritten = (refl, refl);
        named = begun.named;
        started = begun.started;
        desk = begun.desk;
        appended = kept;
        chained = begun.chained;
      },
      whole.1,
      whole.2,
    )

-- ---- entries of the start that are cut off

append_partly : (entries : List ℕ) (synced after : Places) → synced.kept ≡ synced.written →
    StopWithin synced (start_steps entries) after →
    AppendsFront (Some synced.kept) (Some after.kept) entries × (after.sent ≡ synced.sent)
append_partly entries synced after is (inl (front, (back, all), (sent, written, (grown, within)))) =
    let (some, more, parts, kept) = keeps_front (Some synced.kept) (Some after.kept) (Some synced.written)
    (Some after.written) front (ap Some is) grown written within in
    ((some, more ++ back, all ∙ ap (λ (t : List ℕ). t ++ back) parts ∙ append_assoc some more back, kept), sent)
append_partly entries synced after is (inr (p, appended, inl (sent, written, (grown, within)))) =
    let (one, first) = appended.2.0 in
    let (two, then) = grown in
    let all : after.written ≡ synced.written ++ entries = written ∙ append-nil p.written ∙ appended.1 in (
      keeps_front (Some synced.kept) (Some after.kept) (Some synced.written) (Some after.written) entries (ap Some is)
          (one ++ two, then ∙ ap (λ (t : List ℕ). t ++ two) first ∙ append_assoc synced.kept one two) all within,
      sent ∙ appended.0,
    )
append_partly entries synced after is (inr (p, appended, inr (q, sync, none))) = absurd none

-- ---- all of these

-- the entries that were carried out have no more bytes than were found
within_log : (new copy : Node) (disk : List ℕ) (end : LogEnd) →
    HasRecovered CarriesOutEntry new copy (Some disk) (Ok end) → end.length ≤ length disk
within_log new copy disk end (entries, (all, folds, long, (rest, begins, ends)), chained) =
    let lengths = ap length begins ∙ length-append (log_bytes first_chain entries) rest in omega arith

module _ (names : FileOfNames) (number : ℕ) (opened : Opened) (before after : Places)
    (has : HasOpened names number before.written opened) where
  abbrev Ends : Type 0
  Ends = IsStoppedStart names number before.written (Some before.kept) (Some after.kept) × (after.sent ≡ before.sent)

  -- the log was cut, or not for sure
  uncut : after.sent ≡ before.sent →
      IsPartlyCut opened.length before.written (Some before.kept) (Some after.kept) → Ends
  uncut sent partly = (
    (
      StartStage.Cutting,
      (
        has.copy,
        has.end,
        has.read,
        subst (λ (n : ℕ). IsPartlyCut n before.written (Some before.kept) (Some after.kept)) has.begun.stays partly,
      ),
    ),
    sent,
  )

  few : opened.length ≤ length before.written
  few = let least = within_log has.read.new has.copy before.written has.end has.read.recovered in
      let same = has.begun.stays in omega arith

  -- the log has a front of the entries
  unbegun : (cut synced : Places) → IsCut opened.length before cut → IsCarriedOut cut Step.Syncs synced →
      StopWithin synced (start_steps opened.entries) after → Ends
  unbegun cut synced is sync off =
      let partly = append_partly opened.entries synced after sync.2 off in
      let kept : synced.kept ≡ take has.end.length before.written =
      after_sync opened.length before cut synced is sync
      ∙ ap (λ (n : ℕ). take n before.written) has.begun.stays
      in
      let front : AppendsFront (Some (take has.end.length before.written)) (Some after.kept)
      (log_bytes has.end.chain.state (start_entries has.copy)) =
      subst (λ (t : List ℕ). AppendsFront (Some t) (Some after.kept) (log_bytes has.end.chain.state (start_entries has.copy)))
      kept
      (subst (λ (t : List ℕ). AppendsFront (Some synced.kept) (Some after.kept) t) has.begun.entries partly.0)
      in (
        (
          StartStage.Appending,
          (
            has.copy,
            opened.core.node,
            has.end,
            has.end,
            Some (take has.end.length before.written),
            has.read,
            (None, tt, (refl, refl)),
            record {
              named = has.begun.named;
              started = has.begun.started;
              desk = has.begun.desk;
              appended = front;
            },
          ),
        ),
        partly.1 ∙ sync.0 ∙ is.0,
      )

  pub stopped_start : IsStartCutOff opened.length opened.entries before after → Ends
  stopped_start (inl (sent, loses)) = uncut sent (cut_partly opened.length before.written before after loses)
  stopped_start (inr (cut, is, inl off)) =
      uncut (off.sent ∙ is.0) (sync_partly opened.length before cut after few is off)
  stopped_start (inr (cut, is, inr (synced, sync, off))) = unbegun cut synced is sync off

pub are_stopped : CutOffStartsAreStopped
are_stopped names number opened before after has = stopped_start names number opened before after has
