-- The steps for a batch, carried out or cut off.
use Rattle.std.proofs.Common.{◌≡◌, ◌⊎◌, inl, inr, ℕ, List, [], ◌∷◌, ◌++◌, Some, refl, sym, ap, subst, ◌∙◌}
use Rattle.std.proofs.Common.{append_assoc, append-nil}
use Rattle.node_effects.specs.declared.output.Output.{Output}
use Rattle.node_store.specs.Outputs.{HasGathered, WritesAll, WritesFirst}
use Rattle.node_store.specs.Steps.{AreCarriedOut, IsFront, MayKeepMore, Places, StopWithin, steps_of}
use Rattle.node_store.specs.declared.batch.Batch.{Batch}
use Rattle.node_store.proofs.GrowthLemmas.{same_rest}
use Rattle.node_store.proofs.OutputLemmas.{all_written, early_unsent, late_unsent, unlogged_first}

-- of bytes that were appended, a front is kept
kept_front : (old more kept written : List ℕ) → IsFront old kept → IsFront kept written → written ≡ old ++ more
    → (front : List ℕ) × (back : List ℕ) × (more ≡ front ++ back) × (kept ≡ old ++ front)
kept_front old more kept written (front, is) (back, rest) all =
    let same : old ++ (front ++ back) ≡ old ++ more =
    sym (append_assoc old front back) ∙ ap (λ (t : List ℕ). t ++ back) (sym is) ∙ sym rest ∙ all
    in (front, back, sym (same_rest old (front ++ back) more same), is)

-- where nothing was appended, what was kept is kept
none_more : (front back : List ℕ) → [] ≡ front ++ back → front ≡ []
none_more [] back e = refl
none_more (x ∷ front) back e = absurd (cc)

kept_same : (old new : Places) → old.kept ≡ old.written → new.written ≡ old.written → MayKeepMore old new
    → (new.kept ≡ old.kept) × (new.kept ≡ new.written)
kept_same old new synced same (grown, within) =
    let all : new.written ≡ old.kept ++ [] = same ∙ sym synced ∙ sym (append-nil old.kept) in
    let (front, back, none, kept) = kept_front old.kept [] new.kept new.written grown within all in
    let is : new.kept ≡ old.kept =
    kept ∙ ap (λ (t : List ℕ). old.kept ++ t) (none_more front back none) ∙ append-nil old.kept
    in (is, is ∙ synced ∙ sym same)

-- no cause of which anything is said
abbrev no_cause : Unit {0}
no_cause = tt

module _ (chain : ℕ) (batch : Batch) (outputs : List Output) (has : HasGathered chain batch outputs) where
  pub all_carried_out : (before after : Places) → before.kept ≡ before.written → AreCarriedOut before (steps_of batch) after
      → WritesAll chain (Some before.kept) (Some after.kept) (Some before.sent) (Some after.sent) outputs
      × (after.kept ≡ after.written)
  all_carried_out before after synced (p, early, (q, logged, (r, sync, (s, late, last)))) =
      let first = kept_same before p synced early.1 early.2 in
      let kept : r.kept ≡ p.kept ++ batch.log =
      sync.2 ∙ sync.1 ∙ logged.1 ∙ ap (λ (t : List ℕ). t ++ batch.log) (sym first.1)
      in
      let then = kept_same r s sync.2 late.1 late.2 in
      let keeps : after.kept ≡ before.kept ++ batch.log =
      ap (λ (t : Places). t.kept) (sym last) ∙ then.0 ∙ kept ∙ ap (λ (t : List ℕ). t ++ batch.log) first.0
      in
      let sent : after.sent ≡ p.sent ++ batch.output =
      ap (λ (t : Places). t.sent) (sym last) ∙ late.0 ∙ ap (λ (t : List ℕ). t ++ batch.output) (sync.0 ∙ logged.0)
      in (
        all_written chain batch outputs has (Some before.kept) (Some after.kept) (Some before.sent) (Some p.sent)
            (Some after.sent) early.0 keeps sent,
        ap (λ (t : Places). t.kept) (sym last) ∙ then.1 ∙ ap (λ (t : Places). t.written) last,
      )

  abbrev Early : (before after : Places) → Type 0
  Early before after =
      WritesFirst chain (Some before.kept) (Some after.kept) (Some before.sent) (Some after.sent) outputs

  -- the log is cut off, after the first frames were sent
  cut_in_log : (before p after : Places) (front back : List ℕ) → batch.log ≡ front ++ back
      → p.sent ≡ before.sent ++ batch.early → p.kept ≡ before.kept → p.kept ≡ p.written
      → after.sent ≡ p.sent → after.written ≡ p.written ++ front → IsFront p.kept after.kept
      → IsFront after.kept after.written → Early before after
  cut_in_log before p after front back all early same synced sent written grown within =
      let wrote : after.written ≡ p.kept ++ front = written ∙ ap (λ (t : List ℕ). t ++ front) (sym synced) in
      let (some, more, is, kept) = kept_front p.kept front after.kept after.written grown within wrote in
      unlogged_first chain batch outputs has (Some before.kept) (Some after.kept) (Some before.sent) (Some after.sent)
      no_cause (sent ∙ early) (
        some,
        more ++ back,
        all ∙ ap (λ (t : List ℕ). t ++ back) is ∙ append_assoc some more back,
        kept ∙ ap (λ (t : List ℕ). t ++ some) same,
      )

  pub cut_off : (before after : Places) → before.kept ≡ before.written → StopWithin before (steps_of batch) after
      → Early before after
  cut_off before after synced (inl (front, (back, all), (sent, written, keeps))) =
      let same = kept_same before after synced written keeps in
      subst (λ (t : List ℕ). WritesFirst chain (Some before.kept) (Some t) (Some before.sent) (Some after.sent) outputs)
      (sym same.0)
      (early_unsent chain batch outputs has (Some before.kept) (Some before.sent) (Some after.sent) no_cause
      (front, back, all, sent))
  cut_off before after synced (inr (p, early, inl (front, (back, all), (sent, written, keeps)))) =
      let first = kept_same before p synced early.1 early.2 in
      cut_in_log before p after front back all early.0 first.0 first.1 sent written keeps.0 keeps.1
  cut_off before after synced (inr (p, early, inr (q, logged, inl (sent, written, keeps)))) =
      let first = kept_same before p synced early.1 early.2 in
      let (one, is) = logged.2.0 in
      let (two, then) = keeps.0 in
      cut_in_log before p after batch.log [] (sym (append-nil batch.log)) early.0 first.0 first.1 (sent ∙ logged.0)
      (written ∙ append-nil q.written ∙ logged.1)
      (one ++ two, then ∙ ap (λ (t : List ℕ). t ++ two) is ∙ append_assoc p.kept one two) keeps.1
  cut_off before after synced (inr (p, early, inr (q, logged, inr (r, sync, inl (front, (back, all), (sent, written, keeps)))))) =
      let first = kept_same before p synced early.1 early.2 in
      let kept : r.kept ≡ p.kept ++ batch.log =
      sync.2 ∙ sync.1 ∙ logged.1 ∙ ap (λ (t : List ℕ). t ++ batch.log) (sym first.1)
      in
      let then = kept_same r after sync.2 written keeps in
      late_unsent chain batch outputs has (Some before.kept) (Some after.kept) (Some before.sent) (Some p.sent)
      (Some after.sent) no_cause early.0
      (then.0 ∙ kept ∙ ap (λ (t : List ℕ). t ++ batch.log) first.0)
      (front, back, all, sent ∙ ap (λ (t : List ℕ). t ++ front) (sync.0 ∙ logged.0))
  cut_off before after synced (inr (p, early, inr (q, logged, inr (r, sync, inr (s, late, none))))) = absurd none
