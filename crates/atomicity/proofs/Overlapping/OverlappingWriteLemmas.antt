-- A read's complete fetch that lacks pieces has enough writes beside it.
use Rattle.std.proofs.Common.{nat_eq, ◌≡◌, ℕ, suc, ◌+◌, ◌<◌, ◌≤◌, ◌⊎◌, ◌&&◌, Bool, true, false, List, [], ◌∷◌}
use Rattle.std.proofs.Common.{length, get_or, Option, Some, refl, sym, subst, ap, ◌∙◌, inl, inr, arith}
use Rattle.std.proofs.lemmas.Bool.{and_parts, cases_lt}
use Rattle.std.proofs.lemmas.Option.{same_Some}
use Rattle.std.specs.FinMap as map
use Rattle.std.specs.FinMap.Entries.{below_all}
use Rattle.std.specs.List.{AllByRecursion, IsDistinct}
use Rattle.std.specs.Ordering.{is_lt}
use Rattle.tag.specs.declared.tag.Tag.{Tag}
use Rattle.tag.specs.Tag.{tag_cmp, tag_lt, opening_tag, IsBelow}
use Rattle.layout.proofs.DistinctMemberLemmas.{distinct_cons}
use Rattle.bank.specs.Bank.{Bank}
use Rattle.bank.specs.declared.row.Label.{Label}
use Rattle.bank.specs.declared.row.Row.{Row}
use Rattle.bank.specs.Knowledge.{came_by, final_step, row_finalized, finalized_at, count_above, finals_above_at, exceeds}
use Rattle.bank.specs.Knowledge.{is_dropped_at, HasFinalized}
use Rattle.bank.proofs.EntryCountLemmas.{one_if}
use Rattle.bank.proofs.EntryOrderLemmas.{Rows, find_sorted, t_true, is_lt-tag}
use Rattle.mail.specs.Phase.{Phase}
use Rattle.record.specs.declared.call.CallKind.TheVariants.{Read}
use Rattle.record.specs.Records.{Call, Object, bank_at, IsRetiredBy}
use Rattle.record.specs.Knowledge.{IsTrueReply, IsTruePhase}
use Rattle.record.specs.Fragments.{Code, HasEnough, HasDropped}
use Rattle.record.specs.Legal.{is_move}
use Rattle.soundness.specs.Sound.{IsSound}
use Rattle.atomicity.specs.Lacking.{last_beginning, IsOverlapping, IsLackingFetch, IsOverlapped}
use Rattle.atomicity.proofs.Sequences.AnsweredTagLemmas.{answered_facts, tag_order}
use Rattle.atomicity.proofs.Stages.StageFactLemmas.{HasTag}
use Rattle.atomicity.proofs.Overlapping.LastAttemptLemmas.{fetched_since}
use Rattle.atomicity.proofs.Overlapping.FinalizedWriteLemmas.{IsWrittenBefore, written}
use Rattle.soundness.proofs.ListLemmas.{all_get, all_weaker, none_twice}
use Rattle.soundness.proofs.Sound.Enough.CompleteFetchLemmas.{fetch_has_enough}
use Rattle.soundness.proofs.Sound.Enough.PieceCountLemmas.{enough_not_lacking}
use Rattle.record.proofs.TagOrderLemmas.{IsAtMost, not_below_at_most, opening_at_most, tag_lt-true}
use Rattle.soundness.proofs.Quorums.ReplyTruthLemmas.{came_by_later}
use Rattle.atomicity.proofs.Overlapping.GreaterTagLemmas.{apart_from, HasAbove, one_tag}

module _ (fragment : Code) (object : Object) (last : ℕ) (sound : IsSound fragment object last) (number since until : ℕ) (tag : Tag)
    (found : HasTag object Read number since tag) where
  -- the write of a greater tag was not answered before the read last began
  overlapping : (greater : Tag) (step : ℕ) → IsBelow tag greater → step ≤ until → (w : IsWrittenBefore object greater step) →
      IsOverlapping object tag since until w.index
  overlapping greater step above before w = record {
    call = w.call;
    at = w.at;
    value = w.value;
    kind = w.kind;
    greater = greater;
    tagged = w.tagged;
    above = above;
    called = (let c = w.called in omega arith);
    unanswered = λ answer e. go answer e (cases_lt answer since);
  }
    where
      go : (answer : ℕ) → w.call.answered ≡ Some answer → (answer < since) ⊎ (since ≤ answer) → since ≤ answer
      go answer e (inr late) = late
      go answer e (inl early) =
          let fin = answered_facts object sound.legal w.index w.call w.at (ap is_move w.kind) answer e in
          let done = fin.3 in
          let low = (tag_order object sound.legal number since fin.0 done.last done.tag tag Read done.reached done.put
          (let a = fin.1 in omega arith) found).0 in
          let same : done.tag ≡ greater = same_Some done.tag greater (sym done.tagged ∙ w.tagged) in
          absurd (not_below_at_most tag greater above (subst (λ t. IsAtMost t tag) same low))

  -- one write for each greater tag that a bank had finalized by the step
  record Walked (test : Label → Bool) (es : Rows) : Type 0 where
    writes : List ℕ
    distinct : IsDistinct nat_eq writes
    enough : count_above test tag es ≤ length writes
    each : AllByRecursion (IsOverlapping object tag since until) writes
    above : (x : Tag) → below_all tag_cmp x es ≡ true → AllByRecursion (HasAbove object x) writes

  module _ (bank : Bank) (step : ℕ) (before : step ≤ until)
      (known : (greater : Tag) → HasFinalized bank greater step → (greater ≡ opening_tag) ⊎ IsWrittenBefore object greater step) where
    abbrev test : Label → Bool
    test label = came_by (final_step label) step

    -- one entry before those that were walked
    entry_writes : (e : Tag × Row) (es : Rows) → below_all tag_cmp e.0 es ≡ true → Walked test es →
        finalized_at bank e.0 ≡ row_finalized (Some e.1) → Walked test (e ∷ es)
    entry_writes e es under_all rest label_at = by_test (tag_lt tag e.0) refl (test e.1.label) refl
      where
        as_rest : one_if (tag_lt tag e.0 && test e.1.label) ≡ 0 → Walked test (e ∷ es)
        as_rest none = record {
          writes = rest.writes;
          distinct = rest.distinct;
          enough = (let n = rest.enough in omega (arith, none));
          each = rest.each;
          above = λ x below. rest.above x ((and_parts (is_lt (tag_cmp x e.0)) (below_all tag_cmp x es) below).1);
        }

        one_more : one_if (tag_lt tag e.0 && test e.1.label) ≡ 1 → IsBelow tag e.0 → IsWrittenBefore object e.0 step →
            Walked test (e ∷ es)
        one_more one below w = record {
          writes = w.index ∷ rest.writes;
          distinct = distinct_cons w.index rest.writes
              (apart_from rest.writes w.index (all_weaker (HasAbove object e.0) (λ i. i ≡ w.index → ⊥)
              (λ i above. one_tag object e.0 i w.index w.call w.at w.tagged above) rest.writes (rest.above e.0 under_all)))
              rest.distinct;
          enough = (let n = rest.enough in omega (arith, one));
          each = (overlapping e.0 step below before w, rest.each);
          above = λ x under.
              let both = and_parts (is_lt (tag_cmp x e.0)) (below_all tag_cmp x es) under in (
                record {
                  call = w.call;
                  at = w.at;
                  greater = e.0;
                  tagged = w.tagged;
                  above = tag_lt-true x e.0 (sym (is_lt-tag x e.0) ∙ both.0);
                },
                rest.above x both.1,
              );
        }

        by_test : (low : Bool) → tag_lt tag e.0 ≡ low → (final : Bool) → test e.1.label ≡ final → Walked test (e ∷ es)
        by_test false low final is = as_rest (ap (λ b. one_if (b && test e.1.label)) low)
        by_test true low false is =
            as_rest (ap (λ b. one_if (b && test e.1.label)) low ∙ ap (λ b. one_if (true && b)) is)
        by_test true low true is =
            let below = tag_lt-true tag e.0 low in
            by_write below (known e.0 (ap (λ o. came_by o step) label_at ∙ is))
          where
            by_write : IsBelow tag e.0 → (e.0 ≡ opening_tag) ⊎ IsWrittenBefore object e.0 step → Walked test (e ∷ es)
            by_write below (inl opening) =
                absurd (not_below_at_most tag e.0 below (subst (λ t. IsAtMost t tag) (sym opening) (opening_at_most tag)))
            by_write below (inr w) =
                one_more (ap (λ b. one_if (b && test e.1.label)) low ∙ ap (λ b. one_if (true && b)) is) below w

    writes_of : (es : Rows) → map.is_sorted tag_cmp es ≡ true →
        ((k : ℕ) → k < length es → (d : Tag × Row) → finalized_at bank (get_or es k d).0 ≡ row_finalized (Some (get_or es k d).1)) →
        Walked test es
    writes_of [] sorted at = record { writes = []; distinct = none_twice; enough = omega arith; each = tt; above = λ x below. tt }
    writes_of (e ∷ es) sorted at =
        let parts = and_parts (below_all tag_cmp e.0 es) (map.is_sorted tag_cmp es) sorted in
        entry_writes e es parts.0 (writes_of es parts.1 (λ k within d. at (suc k) (omega arith) d)) (at 0 (omega arith) e)

    bank_writes : Walked test (map.entries bank.rows)
    bank_writes =
        let es = map.entries bank.rows in
        let sorted = t_true (map.is_sorted tag_cmp es) (map.entries_sorted bank.rows) in
        writes_of es sorted (λ k within d.
        ap row_finalized (map.get-entries bank.rows (get_or es k d).0 ∙ find_sorted es k d sorted within))

-- what was dropped by a step was exceeded by it, or the bank was retired
exceeded : (bank : Bank) (tag : Tag) (step : ℕ) → is_dropped_at bank tag step ≡ true →
    (came_by bank.retired step ≡ true) ⊎ (exceeds bank.delta (finals_above_at bank tag step) ≡ true)
exceeded bank tag step dropped = grind arith

exceeds_some : (delta : Option ℕ) (n : ℕ) → exceeds delta n ≡ true → (d : ℕ) × (delta ≡ Some d) × (d + 1 ≤ n)
exceeds_some delta n e = grind arith

pub lacking_overlapped : (fragment : Code) (object : Object) (last : ℕ) → IsSound fragment object last → (index place end : ℕ)
    (call : Call) (phase : Phase) (tag : Tag) → IsLackingFetch object index place call phase tag end →
    IsRetiredBy object phase.position end ⊎ IsOverlapped object call place tag end
lacking_overlapped fragment object last sound index place end call phase tag lacking =
    go (fetch_has_enough object sound.legal sound.open_banks index place call phase lacking.at lacking.within truth (tag, lacking.fetch)
    end lacking.complete)
  where
    truth : IsTruePhase object phase
    truth = all_get (IsTruePhase object) call.phases place phase (sound.legal.calls index call lacking.at).phases lacking.within

    since : ℕ
    since = last_beginning call.called call.phases place

    found : HasTag object Read call.id since tag
    found = fetched_since object sound.legal index place call phase tag lacking.at lacking.kind lacking.within lacking.fetch

    by_more : (dropped : HasDropped object phase tag) →
        exceeds (bank_at object phase.position dropped.reply.member).delta
        (finals_above_at (bank_at object phase.position dropped.reply.member) tag dropped.reply.reply.step) ≡ true →
        IsOverlapped object call place tag end
    by_more dropped more =
        let member = dropped.reply.member in
        let bank = bank_at object phase.position member in
        let step = dropped.reply.reply.step in
        let reply = all_get (IsTrueReply object phase) phase.replies dropped.place dropped.reply truth.replies dropped.within in
        let taken = all_get (λ r. r.step ≤ end) phase.replies dropped.place dropped.reply (truth.complete end lacking.complete).1
        dropped.within in
        let order = reply.in_order in
        let some = exceeds_some bank.delta (finals_above_at bank tag step)
        more in
        let all = bank_writes fragment object last sound call.id since end tag found bank step (omega arith)
        (λ greater final. written fragment object last sound step phase.position member greater step (omega arith) final) in
        record {
          delta = some.0;
          collects = sym (sound.shape.delta phase.position member truth.placed reply.within) ∙ some.1;
          overlapping = record {
            writes = all.writes;
            distinct = all.distinct;
            enough = (let e = some.2 in let n = all.enough in omega arith);
            each = all.each;
          };
        }

    -- the bank had gone with its position, or kept newer versions alone
    by_drop : (dropped : HasDropped object phase tag) →
        IsRetiredBy object phase.position end ⊎ IsOverlapped object call place tag end
    by_drop dropped = by_cause (exceeded bank tag step dropped.dropped)
      where
        bank : Bank
        bank = bank_at object phase.position dropped.reply.member

        step : ℕ
        step = dropped.reply.reply.step

        by_cause : (came_by bank.retired step ≡ true) ⊎ (exceeds bank.delta (finals_above_at bank tag step) ≡ true) →
            IsRetiredBy object phase.position end ⊎ IsOverlapped object call place tag end
        by_cause (inl retired) =
            let reply = all_get (IsTrueReply object phase) phase.replies dropped.place dropped.reply truth.replies dropped.within in
            let taken = all_get (λ r. r.step ≤ end) phase.replies dropped.place dropped.reply
            (truth.complete end lacking.complete).1 dropped.within in
            let order = reply.in_order in
            inl (subst (λ o. came_by o end ≡ true) (sound.shape.retired phase.position dropped.reply.member truth.placed reply.within)
            (came_by_later bank.retired step end (omega arith) retired))
        by_cause (inr more) = inr (by_more dropped more)

    go : HasEnough object phase ⊎ HasDropped object phase tag →
        IsRetiredBy object phase.position end ⊎ IsOverlapped object call place tag end
    go (inl enough) =
        absurd (let clash : true ≡ false = sym lacking.lacks ∙ enough_not_lacking object phase truth enough in cc)
    go (inr dropped) = by_drop dropped
