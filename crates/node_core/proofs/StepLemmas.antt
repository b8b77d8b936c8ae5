-- The steps for a batch, of which those that change nothing are left out.
use Rattle.std.proofs.Common.{◌≡◌, ◌==◌, inl, inr, ℕ, Bool, true, false, List, [], ◌∷◌, ◌++◌, Some, length, if◌then◌else◌}
use Rattle.std.proofs.Common.{refl, sym, ap, ◌∙◌, append-nil}
use Rattle.node_store.specs.Steps.{AreCarriedOut, MayKeepMore, Places, Step, StopWithin, steps_of}
use Rattle.node_store.specs.declared.batch.Batch.{Batch}
use Rattle.node_store.proofs.GrowthLemmas.{keeps_front}
use Rattle.node_store.proofs.WaitingLemmas.{no_bytes}
use Rattle.node_core.specs.Rounds.{steps_for}

pub front_none : (front back : List ℕ) → [] ≡ front ++ back → front ≡ []
front_none [] back e = refl
front_none (x ∷ front) back e = absurd (cc)

-- where nothing was appended to a synced log, what was kept is kept, and the log is still synced
pub still_synced : (old new : Places) → old.kept ≡ old.written → new.written ≡ old.written → MayKeepMore old new →
    (new.kept ≡ old.kept) × (new.kept ≡ new.written)
still_synced old new synced same (grown, within) =
    let (front, back, none, kept) = keeps_front (Some old.kept) (Some new.kept) (Some old.written) (Some new.written) []
    (ap Some synced) grown (same ∙ sym (append-nil old.written)) within in
    let is : new.kept ≡ old.kept =
    kept ∙ ap (λ (t : List ℕ). old.kept ++ t) (front_none front back none) ∙ append-nil old.kept
    in (is, is ∙ synced ∙ sym same)

-- the one step of a batch without entries, and its four steps
abbrev one_step : Batch → List Step
one_step batch = Step.Sends batch.early ∷ []

nothing_more : (batch : Batch) (before after : Places) → batch.log ≡ [] → batch.output ≡ [] →
    before.kept ≡ before.written → AreCarriedOut before (one_step batch) after →
    AreCarriedOut before (steps_of batch) after
nothing_more batch before after unlogged unsent synced (p, early, last) =
    let kept = (still_synced before p synced early.1 early.2).1 in
    let all : p.written ≡ p.kept ++ [] = sym kept ∙ sym (append-nil p.kept) in
    let same : MayKeepMore p p = (([], sym (append-nil p.kept)), ([], all)) in (
      p,
      early,
      (
        p,
        (refl, sym (append-nil p.written) ∙ ap (λ (t : List ℕ). p.written ++ t) (sym unlogged), same),
        (
          p,
          (refl, refl, kept),
          (p, (sym (append-nil p.sent) ∙ ap (λ (t : List ℕ). p.sent ++ t) (sym unsent), refl, same), last),
        ),
      ),
    )

none_behind : (batch : Batch) (before after : Places) → StopWithin before (one_step batch) after →
    StopWithin before (steps_of batch) after
none_behind batch before after (inl off) = inl off
none_behind batch before after (inr (p, early, none)) = absurd none

-- the steps that a program carries out come to the same as all four
all_by_test : (test : Bool) (batch : Batch) (before after : Places) → (length batch.log == 0) ≡ test →
    (batch.log ≡ [] → batch.output ≡ []) → before.kept ≡ before.written →
    AreCarriedOut before (if test then one_step batch else steps_of batch) after →
    AreCarriedOut before (steps_of batch) after
all_by_test true batch before after is none synced done =
    let unlogged = no_bytes batch.log (length batch.log) refl is in nothing_more batch before after unlogged (none unlogged) synced done
all_by_test false batch before after is none synced done = done

pub all_steps : (batch : Batch) (before after : Places) → (batch.log ≡ [] → batch.output ≡ []) →
    before.kept ≡ before.written → AreCarriedOut before (steps_for batch) after →
    AreCarriedOut before (steps_of batch) after
all_steps batch before after = all_by_test (length batch.log == 0) batch before after refl

off_by_test : (test : Bool) (batch : Batch) (before after : Places) →
    StopWithin before (if test then one_step batch else steps_of batch) after → StopWithin before (steps_of batch) after
off_by_test true batch before after off = none_behind batch before after off
off_by_test false batch before after off = off

pub cut_off_steps : (batch : Batch) (before after : Places) → StopWithin before (steps_for batch) after →
    StopWithin before (steps_of batch) after
cut_off_steps batch before after = off_by_test (length batch.log == 0) batch before after

-- all steps were carried out between two moments at which the log was synced: it keeps the bytes of the batch behind
-- those that it kept
pub keeps_log : (batch : Batch) (before after : Places) → before.kept ≡ before.written → after.kept ≡ after.written →
    AreCarriedOut before (steps_of batch) after → after.kept ≡ before.kept ++ batch.log
keeps_log batch before after synced kept (p, early, (q, appended, (r, sync, (s, late, last)))) =
    kept ∙ ap (λ (t : Places). t.written) (sym last) ∙ late.1 ∙ sync.1 ∙ appended.1
    ∙ ap (λ (t : List ℕ). t ++ batch.log) (early.1 ∙ sym synced)
