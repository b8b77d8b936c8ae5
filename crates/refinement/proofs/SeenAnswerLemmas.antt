-- The history is one of what clients saw, while calls are answered.
use Rattle.std.proofs.Common.{◌≡◌, ◌<◌, ◌≤◌, ◌⊎◌, inl, inr, ℕ, Bool, true, false, eqb, eqb-true}
use Rattle.std.proofs.Common.{List, [], ◌∷◌, ◌++◌, length, map, Option, Some, is_some, option_map, slice_get}
use Rattle.std.proofs.Common.{refl, sym, subst, ap, ◌∙◌, arith}
use Rattle.std.proofs.lemmas.Option.{same_Some, slice_get-map, slice_get_within}
use Rattle.record.specs.declared.call.Entry.{Entry}
use Rattle.record.specs.declared.call.Operation.TheVariants as operation
use Rattle.atomicity.specs.Atomic.{IsAnsweredBefore}
use Rattle.open_calls.specs.OpenCalls.{NodeCall}
use Rattle.local_object.specs.declared.progress.Ended.{Ended}
use Rattle.deeds.specs.Deeds.{Notice}
use Rattle.refinement.specs.Histories.{told_entry}
use Rattle.refinement.specs.SeenHistories.{IsBegunAs, IsHistoryOfSeen, IsToldAt}
use Rattle.refinement.specs.WellFormed.{HasEntry}
use Rattle.refinement.proofs.LeadLemmas.{ended_in}
use Rattle.refinement.proofs.PlaceLemmas.{get_first, get_mapped, get_pushed, get_same}
use Rattle.refinement.proofs.SeenHistoryLemmas.{IsSeenAt}
use Rattle.refinement.proofs.ToldEntryLemmas.{IsAnswerTo, entry_if, same_call, told_there as entry_told}

-- a call that is answered began as before
begun_same : (name : List ℕ) (notice : Notice) (entry : Entry) (answered : Option ℕ) (value : Option (List ℕ)) →
    (entry.kind ≡ operation.Write → entry.value ≡ value) → IsBegunAs name notice entry →
    IsBegunAs name notice (record entry { answered = answered; value = value })
begun_same name (Notice.Reads other id) entry answered value same begun = begun
begun_same name (Notice.Writes other id written) entry answered value same begun =
    (begun.0, begun.1, begun.2, sym (same begun.2) ∙ begun.3)
begun_same name (Notice.Moves other id layout) entry answered value same begun = begun
begun_same name (Notice.Tells other ended) entry answered value same begun = begun

module _ (name : List ℕ) (notices : List Notice) (history : List Entry) (call : NodeCall) (ended : Ended) (now time later : ℕ)
    (is : IsSeenAt name notices history now) (has : HasEntry history call) (answers : IsAnswerTo call ended) (until : now ≤ later)
    (within : time ≤ later) where
  abbrev old : IsHistoryOfSeen name notices history
  old = is.seen

  abbrev answer : Entry → Entry
  answer entry = told_entry ended time entry

  abbrev notice : Notice
  notice = Notice.Tells name ended

  same_called : (entry : Entry) → (answer entry).called ≡ entry.called
  same_called entry = go (eqb entry.call ended.id)
    where
      go : (b : Bool) → (entry_if ended time entry b).called ≡ entry.called
      go true = refl
      go false = refl

  -- the entry of the call is the one that the history has of it
  own_entry : (index : ℕ) (entry : Entry) → slice_get history index ≡ Some entry → entry.call ≡ ended.id → has.entry ≡ entry
  own_entry index entry at same =
      get_same history has.place index has.entry entry has.at at
      (old.distinct has.place index has.entry entry has.at at (has.same_id ∙ sym answers.same_id ∙ sym same))

  begun_there : (index : ℕ) (entry : Entry) → slice_get history index ≡ Some entry → (seen : Notice) → IsBegunAs name seen entry →
      IsBegunAs name seen (answer entry)
  begun_there index entry at seen begun = go (eqb entry.call ended.id) refl
    where
      value : entry.call ≡ ended.id → entry.kind ≡ operation.Write → entry.value ≡ ended.value
      value same kind =
          let own = own_entry index entry at same in
          ap (λ (e : Entry). e.value) (sym own) ∙ has.value
          ∙ answers.written (sym has.kind ∙ ap (λ (e : Entry). e.kind) own ∙ kind)

      go : (b : Bool) → eqb entry.call ended.id ≡ b → IsBegunAs name seen (entry_if ended time entry b)
      go true e = begun_same name seen entry (Some time) ended.value (value (eqb-true entry.call ended.id e)) begun
      go false e = begun

  -- an answer from before stays as it is
  answer_same : (index : ℕ) (entry : Entry) → slice_get history index ≡ Some entry → is_some entry.answered ≡ true →
      answer entry ≡ entry
  answer_same index entry at answered = go (eqb entry.call ended.id) refl
    where
      go : (b : Bool) → eqb entry.call ended.id ≡ b → entry_if ended time entry b ≡ entry
      go true e = absurd (
          let own = own_entry index entry at (eqb-true entry.call ended.id e) in
          let wrong : false ≡ true = sym (ap is_some has.unanswered) ∙ ap (λ (x : Entry). is_some x.answered) own ∙ answered in cc
          )
      go false e = refl

  before_same : (entry one two : Entry) → answer one ≡ two → IsAnsweredBefore entry one → IsAnsweredBefore entry two
  before_same entry one two same first =
      (first.0, first.1, subst (λ n. first.0 < n) (sym (same_called one) ∙ ap (λ (e : Entry). e.called) same) first.2)

  told_before : (times : ℕ) (other : Ended) → IsToldAt history old.begins times other →
      IsToldAt (map answer history) old.begins times other
  told_before times other told = record {
    index = told.index;
    entry = told.entry;
    at = slice_get-map answer history told.index ∙ ap (option_map answer) told.at
        ∙ ap Some (answer_same told.index told.entry told.at told.answered);
    call = told.call;
    kind = told.kind;
    value = told.value;
    answered = told.answered;
    before = told.before;
    order = λ index one at early. let was = get_mapped answer history index one at in
        before_same told.entry was.0 one was.2 (told.order index was.0 was.1 early);
  }

  begins_within : (index : ℕ) (entry : Entry) → slice_get history index ≡ Some entry → old.begins index < length notices
  begins_within index entry at =
      let there = old.begun index entry at in slice_get_within notices (old.begins index) there.0 there.1

  told_now : IsToldAt (map answer history) old.begins (length notices) ended
  told_now =
      let there = entry_told history call ended time has answers in record {
        index = there.place;
        entry = there.entry;
        at = there.at;
        call = there.call;
        kind = there.kind;
        value = there.value;
        answered = ap is_some there.answered;
        before = let was = get_mapped answer history there.place there.entry there.at in begins_within there.place was.0 was.1;
        order = λ other one at early. let was = get_mapped answer history other one at in
            absurd (let within = begins_within other was.0 was.1 in omega arith);
      }

  told_there : (times : ℕ) (other : Ended) → (slice_get notices times ≡ Some (Notice.Tells name other))
      ⊎ ((times ≡ length notices) × (notice ≡ Notice.Tells name other)) → IsToldAt (map answer history) old.begins times other
  told_there times other (inl before) = told_before times other (old.told times other before)
  told_there times other (inr new) =
      let same : ended ≡ other = ap (λ (n : Notice). ended_in (Some n) other) new.1 in
      subst (λ n. IsToldAt (map answer history) old.begins n other) (sym new.0)
      (subst (IsToldAt (map answer history) old.begins (length notices)) same told_now)

  last_there : (index times : ℕ) (entry other : Entry) (seen : Notice) → slice_get history index ≡ Some entry →
      IsBegunAs name seen other → other.call ≡ entry.call →
      (slice_get notices times ≡ Some seen) ⊎ ((times ≡ length notices) × (notice ≡ seen)) → times ≤ old.begins index
  last_there index times entry other seen at by same (inl before) = old.last index times entry other seen at before by same
  last_there index times entry other seen at by same (inr new) = absurd (subst (λ n. IsBegunAs name n other) (sym new.1) by)

  past_there : (index : ℕ) (entry : Entry) (step : ℕ) → slice_get history index ≡ Some entry → (answer entry).answered ≡ Some step →
      step ≤ later
  past_there index entry step at = go (eqb entry.call ended.id)
    where
      go : (b : Bool) → (entry_if ended time entry b).answered ≡ Some step → step ≤ later
      go true e = let same : time ≡ step = same_Some time step e in omega arith
      go false e = let past = is.past index entry step at e in omega arith

  pub seen_answered : IsSeenAt name (notices ++ notice ∷ []) (map answer history) later
  seen_answered = record {
    seen = record {
      begins = old.begins;
      begun = λ index entry at. let was = get_mapped answer history index entry at in
          let there = old.begun index was.0 was.1 in (
            there.0,
            get_first notices (notice ∷ []) (old.begins index) there.0 there.1,
            subst (IsBegunAs name there.0) was.2 (begun_there index was.0 was.1 there.0 there.2),
          );
      last = λ index times entry other seen at there by same. let was = get_mapped answer history index entry at in
          last_there index times was.0 other seen was.1 by
          (same ∙ ap (λ (e : Entry). e.call) (sym was.2) ∙ same_call ended time was.0) (get_pushed notices notice times seen there);
      distinct = λ one other first second a b same.
          let was = get_mapped answer history one first a in
          let then = get_mapped answer history other second b in
          old.distinct one other was.0 then.0 was.1 then.1
          (sym (same_call ended time was.0) ∙ ap (λ (e : Entry). e.call) was.2 ∙ same
          ∙ sym (ap (λ (e : Entry). e.call) then.2) ∙ same_call ended time then.0);
      told = λ times other at. told_there times other (get_pushed notices notice times (Notice.Tells name other) at);
    };
    past = λ index entry step at e. let was = get_mapped answer history index entry at in
        past_there index was.0 step was.1 (ap (λ (x : Entry). x.answered) was.2 ∙ e);
  }
