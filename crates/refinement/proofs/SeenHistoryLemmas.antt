-- The history is one of what clients saw, while calls begin and time goes on.
use Rattle.std.proofs.Common.{◌≡◌, ◌<◌, ◌≤◌, ◌+◌, ◌⊎◌, inl, inr, ℕ, true, false, if◌then◌else◌}
use Rattle.std.proofs.Common.{List, [], ◌∷◌, ◌++◌, length, Option, None, Some, is_some, slice_get}
use Rattle.std.proofs.Common.{refl, sym, subst, ap, ◌∙◌, arith}
use Rattle.std.specs.Prelude.{nat_lt}
use Rattle.std.proofs.lemmas.Bool.{lt-ltb, le-ltb}
use Rattle.std.proofs.lemmas.Option.{slice_get_within}
use Rattle.std.specs.List.{AllByRecursion}
use Rattle.record.specs.declared.call.Entry.{Entry}
use Rattle.atomicity.specs.Atomic.{IsAnsweredBefore}
use Rattle.open_calls.proofs.ListLemmas.{all_at}
use Rattle.local_object.specs.declared.progress.Ended.{Ended}
use Rattle.deeds.specs.Deeds.{Notice}
use Rattle.deeds.proofs.NameLemmas.{names_decided}
use Rattle.refinement.specs.Histories.{is_about}
use Rattle.refinement.specs.SeenHistories.{IsBegunAs, IsHistoryOfSeen, IsToldAt}
use Rattle.refinement.proofs.CallEntryLemmas.{at_end}
use Rattle.refinement.proofs.PlaceLemmas.{get_first, get_pushed, get_split}

-- the history is one of what clients saw, and no answer in it is later than now
pub record IsSeenAt (name : List ℕ) (notices : List Notice) (history : List Entry) (now : ℕ) : Type 0 where
  pub seen : IsHistoryOfSeen name notices history
  pub past : (index : ℕ) (entry : Entry) (step : ℕ) → slice_get history index ≡ Some entry → entry.answered ≡ Some step → step ≤ now

-- a notice with which a call of the object began is about it
begun_about : (name : List ℕ) (notice : Notice) (entry : Entry) → IsBegunAs name notice entry → is_about name notice ≡ true
begun_about name (Notice.Reads other id) entry begun = (names_decided name other).1 (sym begun.0)
begun_about name (Notice.Writes other id value) entry begun = (names_decided name other).1 (sym begun.0)
begun_about name (Notice.Moves other id layout) entry begun = (names_decided name other).1 (sym begun.0)
begun_about name (Notice.Tells other ended) entry begun = absurd begun

-- it has one id
begun_once : (name : List ℕ) (notice : Notice) (one other : Entry) → IsBegunAs name notice one → IsBegunAs name notice other →
    one.call ≡ other.call
begun_once name (Notice.Reads named id) one other first second = first.1 ∙ sym second.1
begun_once name (Notice.Writes named id value) one other first second = first.1 ∙ sym second.1
begun_once name (Notice.Moves named id layout) one other first second = first.1 ∙ sym second.1
begun_once name (Notice.Tells named ended) one other first second = absurd first

-- Time goes on, and clients see things of other names

pub seen_later : (name : List ℕ) (notices : List Notice) (history : List Entry) (now later : ℕ) → now ≤ later →
    IsSeenAt name notices history now → IsSeenAt name notices history later
seen_later name notices history now later more is = record {
  seen = is.seen;
  past = λ index entry step at answered. let before = is.past index entry step at answered in omega arith;
}

pub seen_beside : (name : List ℕ) (notices more : List Notice) (history : List Entry) (now : ℕ) →
    AllByRecursion (λ notice. is_about name notice ≡ false) more →
    ((ended : Ended) → is_about name (Notice.Tells name ended) ≡ true) → IsSeenAt name notices history now →
    IsSeenAt name (notices ++ more) history now
seen_beside name notices more history now none own is = record {
  seen = record {
    begins = of.begins;
    begun = λ index entry at. let there = of.begun index entry at in
        (there.0, get_first notices more (of.begins index) there.0 there.1, there.2);
    last = λ index time entry other notice at there begun. before index time entry other notice at begun
        (get_split notices more time notice there);
    distinct = of.distinct;
    told = λ time ended at. go time ended (get_split notices more time (Notice.Tells name ended) at);
  };
  past = is.past;
}
  where
    of : IsHistoryOfSeen name notices history
    of = is.seen

    before : (index time : ℕ) (entry other : Entry) (notice : Notice) → slice_get history index ≡ Some entry →
        IsBegunAs name notice other →
        (slice_get notices time ≡ Some notice) ⊎ ((k : ℕ) × (time ≡ length notices + k) × (slice_get more k ≡ Some notice)) →
        other.call ≡ entry.call → time ≤ of.begins index
    before index time entry other notice at begun (inl here) same = of.last index time entry other notice at here begun same
    before index time entry other notice at begun (inr there) same = absurd (let wrong : false ≡ true =
        sym (all_at (λ notice. is_about name notice ≡ false) more there.0 notice none there.2)
        ∙ begun_about name notice other begun in cc)

    go : (time : ℕ) (ended : Ended) → (slice_get notices time ≡ Some (Notice.Tells name ended))
        ⊎ ((k : ℕ) × (time ≡ length notices + k) × (slice_get more k ≡ Some (Notice.Tells name ended))) →
        IsToldAt history of.begins time ended
    go time ended (inl here) = of.told time ended here
    go time ended (inr there) = absurd (let wrong : false ≡ true =
        sym (all_at (λ notice. is_about name notice ≡ false) more there.0 (Notice.Tells name ended) none there.2)
        ∙ own ended in cc)

-- A call begins

module _ (name : List ℕ) (notices : List Notice) (notice : Notice) (history : List Entry) (entry : Entry) (now later : ℕ)
    (is : IsSeenAt name notices history now) (begun : IsBegunAs name notice entry) (after : now < entry.called)
    (within : now ≤ later) (unanswered : entry.answered ≡ None)
    (free : AllByRecursion (λ other. other.call ≡ entry.call → ⊥) history) where
  abbrev old : IsHistoryOfSeen name notices history
  old = is.seen

  abbrev begins : ℕ → ℕ
  begins index = if nat_lt index (length history) then old.begins index else length notices

  begins_before : (index : ℕ) (one : Entry) → slice_get history index ≡ Some one → begins index ≡ old.begins index
  begins_before index one at =
      ap (λ b. if b then old.begins index else length notices) (lt-ltb index (length history) (slice_get_within history index one at))

  begins_now : (index : ℕ) → index ≡ length history → begins index ≡ length notices
  begins_now index last =
      ap (λ b. if b then old.begins index else length notices) (le-ltb index (length history) (omega arith))

  begun_there : (index : ℕ) (one : Entry) → (slice_get history index ≡ Some one) ⊎ ((index ≡ length history) × (entry ≡ one)) →
      (seen : Notice) × (slice_get (notices ++ notice ∷ []) (begins index) ≡ Some seen) × IsBegunAs name seen one
  begun_there index one (inl before) =
      let there = old.begun index one before in (
        there.0,
        ap (slice_get (notices ++ notice ∷ [])) (begins_before index one before)
            ∙ get_first notices (notice ∷ []) (old.begins index) there.0 there.1,
        there.2,
      )
  begun_there index one (inr new) = (
    notice,
    ap (slice_get (notices ++ notice ∷ [])) (begins_now index new.0) ∙ at_end notices notice,
    subst (IsBegunAs name notice) new.1 begun,
  )

  distinct_there : (one other : ℕ) (first second : Entry) →
      (slice_get history one ≡ Some first) ⊎ ((one ≡ length history) × (entry ≡ first)) →
      (slice_get history other ≡ Some second) ⊎ ((other ≡ length history) × (entry ≡ second)) →
      first.call ≡ second.call → one ≡ other
  distinct_there one other first second (inl a) (inl b) same = old.distinct one other first second a b same
  distinct_there one other first second (inl a) (inr b) same =
      absurd (all_at (λ (e : Entry). e.call ≡ entry.call → ⊥) history one first free a
      (same ∙ ap (λ (e : Entry). e.call) (sym b.1)))
  distinct_there one other first second (inr a) (inl b) same =
      absurd (all_at (λ (e : Entry). e.call ≡ entry.call → ⊥) history other second free b
      (sym same ∙ ap (λ (e : Entry). e.call) (sym a.1)))
  distinct_there one other first second (inr a) (inr b) same = a.0 ∙ sym b.0

  last_there : (index time : ℕ) (one other : Entry) (seen : Notice) → IsBegunAs name seen other → other.call ≡ one.call →
      (slice_get history index ≡ Some one) ⊎ ((index ≡ length history) × (entry ≡ one)) →
      (slice_get notices time ≡ Some seen) ⊎ ((time ≡ length notices) × (notice ≡ seen)) → time ≤ begins index
  last_there index time one other seen by same (inl a) (inl b) =
      subst (λ n. time ≤ n) (sym (begins_before index one a)) (old.last index time one other seen a b by same)
  last_there index time one other seen by same (inl a) (inr b) =
      absurd (all_at (λ (e : Entry). e.call ≡ entry.call → ⊥) history index one free a
      (sym same ∙ begun_once name seen other entry by (subst (λ n. IsBegunAs name n entry) b.1 begun)))
  last_there index time one other seen by same (inr a) (inl b) =
      let less = slice_get_within notices time seen b in
      let now = begins_now index a.0 in omega arith
  last_there index time one other seen by same (inr a) (inr b) =
      let there = b.0 in
      let now = begins_now index a.0 in omega arith

  -- an answer from before is before the call that begins
  answer_before : (index : ℕ) (one : Entry) → slice_get history index ≡ Some one → (o : Option ℕ) → one.answered ≡ o →
      is_some o ≡ true → IsAnsweredBefore one entry
  answer_before index one at None e answered = absurd (cc)
  answer_before index one at (Some step) e answered = (step, e, let past = is.past index one step at e in omega arith)

  order_there : (time : ℕ) (ended : Ended) (told : IsToldAt history old.begins time ended) (other : ℕ) (one : Entry) →
      (slice_get history other ≡ Some one) ⊎ ((other ≡ length history) × (entry ≡ one)) → time < begins other →
      IsAnsweredBefore told.entry one
  order_there time ended told other one (inl before) early =
      told.order other one before (subst (λ n. time < n) (begins_before other one before) early)
  order_there time ended told other one (inr new) early =
      subst (IsAnsweredBefore told.entry) new.1 (answer_before told.index told.entry told.at told.entry.answered refl told.answered)

  told_there : (time : ℕ) (ended : Ended) → (slice_get notices time ≡ Some (Notice.Tells name ended))
      ⊎ ((time ≡ length notices) × (notice ≡ Notice.Tells name ended)) → IsToldAt (history ++ entry ∷ []) begins time ended
  told_there time ended (inl before) =
      let told = old.told time ended before in record {
        index = told.index;
        entry = told.entry;
        at = get_first history (entry ∷ []) told.index told.entry told.at;
        call = told.call;
        kind = told.kind;
        value = told.value;
        answered = told.answered;
        before = subst (λ n. n < time) (sym (begins_before told.index told.entry told.at)) told.before;
        order = λ other one at early. order_there time ended told other one (get_pushed history entry other one at) early;
      }
  told_there time ended (inr new) = absurd (subst (λ n. IsBegunAs name n entry) new.1 begun)

  past_there : (index : ℕ) (one : Entry) (step : ℕ) →
      (slice_get history index ≡ Some one) ⊎ ((index ≡ length history) × (entry ≡ one)) → one.answered ≡ Some step → step ≤ later
  past_there index one step (inl before) e = let past = is.past index one step before e in omega arith
  past_there index one step (inr new) e =
      absurd (let wrong : None ≡ Some step = sym unanswered ∙ ap (λ (x : Entry). x.answered) new.1 ∙ e in cc)

  pub seen_begun : IsSeenAt name (notices ++ notice ∷ []) (history ++ entry ∷ []) later
  seen_begun = record {
    seen = record {
      begins = begins;
      begun = λ index one at. begun_there index one (get_pushed history entry index one at);
      last = λ index time one other seen at there by same. last_there index time one other seen by same
          (get_pushed history entry index one at) (get_pushed notices notice time seen there);
      distinct = λ one other first second a b same. distinct_there one other first second (get_pushed history entry one first a)
          (get_pushed history entry other second b) same;
      told = λ time ended at. told_there time ended (get_pushed notices notice time (Notice.Tells name ended) at);
    };
    past = λ index one step at e. past_there index one step (get_pushed history entry index one at) e;
  }
