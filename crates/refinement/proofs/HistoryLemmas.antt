-- The history of an object goes on as clients see more.
use Rattle.std.proofs.Common.{◌≡◌, ◌<◌, ◌≤◌, ℕ, zero, suc, ◌⊎◌, inl, inr, true, false, cond, List, [], ◌∷◌, ◌++◌, map}
use Rattle.std.proofs.Common.{Some, slice_get, refl, sym, ap, ◌∙◌}
use Rattle.std.proofs.lemmas.List.{append-nil, map-append}
use Rattle.std.proofs.lemmas.List.Elements.{filter-append}
use Rattle.std.specs.List.{AllByRecursion}
use Rattle.record.specs.declared.call.Entry.{Entry}
use Rattle.local_object.specs.declared.progress.Ended.{Ended}
use Rattle.deeds.specs.Deeds.{Notice}
use Rattle.refinement.specs.Histories.{IsHistoryOf, TimedNotice, after_notice, after_notices, is_about, notices_about}
use Rattle.refinement.proofs.SeenHistoryLemmas.{IsSeenAt, seen_beside, seen_later}
use Rattle.refinement.proofs.TimedLemmas.{IsRisingTo, after_push, rising_is, rising_more, rising_push}
use Rattle.refinement.proofs.ToldLemmas.{IsToldIn}
use Rattle.open_calls.proofs.ListLemmas.{all_at}

-- each answer about the name that clients were told is in the history
abbrev pub AreTold : (name : List ℕ) → List Notice → List Entry → Type 0
AreTold name notices history = (place : ℕ) (ended : Ended) → slice_get notices place ≡ Some (Notice.Tells name ended) →
    IsToldIn history ended

-- the history at a time is the one of what clients saw
pub record IsHistoryAt (name : List ℕ) (notices : List Notice) (history : List Entry) (now : ℕ) : Type 0 where
  pub timed : List TimedNotice
  pub those : map (λ timed. timed.notice) timed ≡ notices_about name notices
  pub rising : IsRisingTo 0 timed now
  pub result : history ≡ after_notices timed []
  pub told : AreTold name notices history
  pub seen : IsSeenAt name notices history now

pub history_is : (name : List ℕ) (notices : List Notice) (history : List Entry) (now : ℕ) →
    IsHistoryAt name notices history now → IsHistoryOf name notices history
history_is name notices history now is = record {
  timed = is.timed;
  those = is.those;
  rising = rising_is 0 now is.timed is.rising;
  result = is.result;
  told = λ place ended at. (is.told place ended at).answered;
}

pub history_later : (name : List ℕ) (notices : List Notice) (history : List Entry) (now later : ℕ) → now ≤ later →
    IsHistoryAt name notices history now → IsHistoryAt name notices history later
history_later name notices history now later more is = record {
  timed = is.timed;
  those = is.those;
  rising = rising_more 0 now later is.timed is.rising more;
  result = is.result;
  told = is.told;
  seen = seen_later name notices history now later more is.seen;
}

-- what is in two lists is in one of them
get_append : (xs ys : List Notice) (i : ℕ) (x : Notice) → slice_get (xs ++ ys) i ≡ Some x →
    (slice_get xs i ≡ Some x) ⊎ ((j : ℕ) × (slice_get ys j ≡ Some x))
get_append [] ys i x e = inr (i, e)
get_append (y ∷ xs) ys zero x e = inl e
get_append (y ∷ xs) ys (suc i) x e = get_append xs ys i x e

told_more : (name : List ℕ) (notices more : List Notice) (history : List Entry) → AreTold name notices history →
    AreTold name more history → AreTold name (notices ++ more) history
told_more name notices more history first second place ended at =
    go (get_append notices more place (Notice.Tells name ended) at)
  where
    go : (slice_get notices place ≡ Some (Notice.Tells name ended)) ⊎ ((j : ℕ) × (slice_get more j ≡ Some (Notice.Tells name ended))) →
        IsToldIn history ended
    go (inl here) = first place ended here
    go (inr there) = second there.0 ended there.1

about_push : (name : List ℕ) (notices : List Notice) (notice : Notice) → is_about name notice ≡ true →
    notices_about name (notices ++ notice ∷ []) ≡ notices_about name notices ++ notice ∷ []
about_push name notices notice about =
    filter-append (is_about name) notices (notice ∷ [])
    ∙ ap (λ b. notices_about name notices ++ cond b (notice ∷ []) []) about

-- a notice about the name
pub history_push : (name : List ℕ) (notices : List Notice) (notice : Notice) (history : List Entry) (now time later : ℕ) →
    is_about name notice ≡ true → now < time → time ≤ later → IsHistoryAt name notices history now →
    AreTold name notices (after_notice time notice history) →
    AreTold name (notice ∷ []) (after_notice time notice history) →
    IsSeenAt name (notices ++ notice ∷ []) (after_notice time notice history) later →
    IsHistoryAt name (notices ++ notice ∷ []) (after_notice time notice history) later
history_push name notices notice history now time later about after within is first second seen =
    let timed : TimedNotice = record { time = time; notice = notice } in record {
      timed = is.timed ++ timed ∷ [];
      those = map-append (λ (t : TimedNotice). t.notice) is.timed (timed ∷ []) ∙ ap (λ xs. xs ++ notice ∷ []) is.those
          ∙ sym (about_push name notices notice about);
      rising = rising_push 0 now later is.timed timed is.rising after within;
      result = ap (after_notice time notice) is.result ∙ sym (after_push is.timed timed []);
      told = told_more name notices (notice ∷ []) (after_notice time notice history) first second;
      seen = seen;
    }

-- notices about other names
none_about : (name : List ℕ) (notices : List Notice) → AllByRecursion (λ notice. is_about name notice ≡ false) notices →
    notices_about name notices ≡ []
none_about name [] none = refl
none_about name (notice ∷ notices) none =
    ap (λ b. cond b (notice ∷ notices_about name notices) (notices_about name notices)) none.0 ∙ none_about name notices none.1

pub history_beside : (name : List ℕ) (notices more : List Notice) (history : List Entry) (now : ℕ) →
    AllByRecursion (λ notice. is_about name notice ≡ false) more →
    ((ended : Ended) → is_about name (Notice.Tells name ended) ≡ true) → IsHistoryAt name notices history now →
    IsHistoryAt name (notices ++ more) history now
history_beside name notices more history now none own is = record {
  timed = is.timed;
  those = is.those ∙ sym (filter-append (is_about name) notices more
      ∙ ap (λ xs. notices_about name notices ++ xs) (none_about name more none)
      ∙ append-nil (notices_about name notices));
  rising = is.rising;
  result = is.result;
  told = told_more name notices more history is.told
      (λ place ended at. absurd (let wrong : false ≡ true =
      sym (all_at (λ notice. is_about name notice ≡ false) more place (Notice.Tells name ended) none at)
      ∙ own ended in cc));
  seen = seen_beside name notices more history now none own is.seen;
}
