-- The history with the answers that may be told.
use Rattle.std.proofs.Common.{◌≡◌, ℕ, ◌⊎◌, false, List, Option, Some, refl, sym, subst, ap, ◌∙◌, inl, inr, slice_get, zero, suc, ◌+◌, true}
use Rattle.std.proofs.Common.{cond, eqb, eqb-true, Bool, [], ◌∷◌, None, subst₂, arith}
use Rattle.std.proofs.lemmas.Option.{same_Some}
use Rattle.std.specs.List.{AllByRecursion}
use Rattle.std.specs.Prelude.{option_map}
use Rattle.tag.specs.declared.tag.Tag.{Tag}
use Rattle.record.specs.declared.call.CallKind.TheVariants.{Read, Write}
use Rattle.record.specs.declared.call.Entry.{Entry}
use Rattle.record.specs.Fragments.{Code, Determines}
use Rattle.record.specs.Journals.{entry_of, entry_value, tag_of, IsJournaled}
use Rattle.record.specs.Records.{Call, Object}
use Rattle.soundness.specs.Sound.{IsSound}
use Rattle.soundness.proofs.Values.ReadValueLemmas.{reads_journaled}
use Rattle.atomicity.proofs.Stages.StageFactLemmas.{HasTag}
use Rattle.atomicity.proofs.Sequences.EntrySequenceLemmas.{tagged_atomic}
use Rattle.atomicity.proofs.Sequences.SeenCallLemmas.{AreSeen, HasEnded, IsSeen, recorded_seen, recorded_tag, seen_tagged}
use Rattle.atomicity.specs.Atomic.{IsAtomic}
use Rattle.early_ends.specs.Told.{IsHeldCall, IsTold, IsToldRead, Told, as_told, answer_to, told_entries, told_from}
use Rattle.early_ends.proofs.ToldCallLemmas.{told_ended, told_tag}
use Rattle.early_ends.proofs.WriteTagLemmas.{write_tag}
use Rattle.early_ends.proofs.ToldValueLemmas.{told_value}

-- Calls with such an answer

told_at : (fragment : Code) (object : Object) (told : Told) (may : IsTold fragment object told) →
    slice_get object.calls told.index ≡ Some may.call
told_at fragment object told may = go may.held
  where
    go : IsHeldCall fragment object told may.call may.tag ⊎ IsToldRead fragment object told may.call may.tag →
        slice_get object.calls told.index ≡ Some may.call
    go (inl held) = held.made.at
    go (inr read) = read.made.at

-- a call with an answer that may be told
told_seen : (fragment : Code) (object : Object) (step : ℕ) → Determines fragment → IsSound fragment object step →
    (told : Told) (may : IsTold fragment object told) →
    IsSeen object told.index may.call (entry_of may.call.id (as_told (Some told) may.call)) (Some may.tag)
told_seen fragment object step determines sound told may = record {
  at = told_at fragment object told may;
  kind = refl;
  called = refl;
  tagged = λ t e stands.
      subst (λ u. HasTag object may.call.kind may.call.id may.call.called u) (same_Some may.tag t e)
      (told_tag fragment object sound.legal told may);
  ended = λ now e stands. (
    may.tag,
    refl,
    subst (λ s. HasEnded object may.call.called s may.tag) (same_Some told.step now e) (told_ended fragment object sound.legal told may),
  );
  wrote = λ value k. (ap (λ kind. entry_value kind (Some told.step) told.value) k, go value k may.held);
  returned = λ now t k e tag.
      let v = told_value fragment object step determines sound told may k in (
        v.0,
        ap (λ kind. entry_value kind (Some told.step) told.value) k ∙ v.1,
        subst (λ u. IsJournaled object u v.0) (same_Some may.tag t tag) v.2,
      );
}
  where
    go : (value : List ℕ) → may.call.kind ≡ Write value →
        IsHeldCall fragment object told may.call may.tag ⊎ IsToldRead fragment object told may.call may.tag →
        tag_of object told.index may.call ≡ Some may.tag
    go value k (inl held) = write_tag object told.index may.call held.stage held.phase held.made value k may.tag held.tagged
    go value k (inr read) = absurd (let clash : Read ≡ Write value = sym read.reads ∙ k in cc)

-- The answers by index

-- the tag of the first of the answers to the call at this index, or the other tag if there is none
abbrev told_tag_at : (fragment : Code) (object : Object) (told : List Told) → AllByRecursion (IsTold fragment object) told →
    (index : ℕ) → Option Tag → Option Tag
told_tag_at fragment object [] may index other = other
told_tag_at fragment object (answer ∷ answers) may index other =
    cond (eqb answer.index index) (Some may.0.tag) (told_tag_at fragment object answers may.1 index other)

-- the call at this index has no answer among these, or has this first one
abbrev IsLookedUp : (fragment : Code) (object : Object) (index : ℕ) → (other tag : Option Tag) → Option Told → Type 0
IsLookedUp fragment object index other tag found = ((found ≡ None) × (tag ≡ other))
    ⊎ ((answer : Told) × (may : IsTold fragment object answer) × (answer.index ≡ index) × (found ≡ Some answer)
    × (tag ≡ Some may.tag))

looked_up : (fragment : Code) (object : Object) (told : List Told) (may : AllByRecursion (IsTold fragment object) told) (index : ℕ)
    (other : Option Tag) →
    IsLookedUp fragment object index other (told_tag_at fragment object told may index other) (answer_to told index)
looked_up fragment object [] may index other = inl (refl, refl)
looked_up fragment object (answer ∷ answers) may index other =
    go (eqb answer.index index) refl (looked_up fragment object answers may.1 index other)
  where
    rest : Option Tag
    rest = told_tag_at fragment object answers may.1 index other

    go : (b : Bool) → eqb answer.index index ≡ b → IsLookedUp fragment object index other rest (answer_to answers index) →
        IsLookedUp fragment object index other (cond b (Some may.0.tag) rest) (cond b (Some answer) (answer_to answers index))
    go true e known = inr (answer, may.0, eqb-true answer.index index e, refl, refl)
    go false e known = known

told_from-get : (told : List Told) (first : ℕ) (calls : List Call) (index : ℕ) → slice_get (told_from told first calls) index
    ≡ option_map (λ (call : Call). entry_of call.id (as_told (answer_to told (first + index)) call)) (slice_get calls index)
told_from-get told first [] index = refl
told_from-get told first (call ∷ calls) zero =
    let same : first ≡ first + 0 = omega arith in
    ap (λ i. Some (entry_of call.id (as_told (answer_to told i) call))) same
told_from-get told first (call ∷ calls) (suc index) =
    let same : suc first + index ≡ first + suc index = omega arith in
    told_from-get told (suc first) calls index
    ∙ ap (λ i. option_map (λ (call : Call). entry_of call.id (as_told (answer_to told i) call)) (slice_get calls index)) same

-- the entry of each call stands at the call's place
told_entries-get : (object : Object) (told : List Told) (index : ℕ) → slice_get (told_entries object told) index
    ≡ option_map (λ (call : Call). entry_of call.id (as_told (answer_to told index) call)) (slice_get object.calls index)
told_entries-get object told index =
    let same : 0 + index ≡ index = omega arith in
    told_from-get told 0 object.calls index
    ∙ ap (λ i. option_map (λ (call : Call). entry_of call.id (as_told (answer_to told i) call)) (slice_get object.calls index)) same

module _ (fragment : Code) (object : Object) (step : ℕ) (determines : Determines fragment) (sound : IsSound fragment object step)
    (told : List Told) (may : AllByRecursion (IsTold fragment object) told) where
  abbrev tags : ℕ → Option Tag
  tags index = told_tag_at fragment object told may index (recorded_tag object index (slice_get object.calls index))

  -- each call as its client saw it
  call_seen : (index : ℕ) (call : Call) → slice_get object.calls index ≡ Some call →
      IsSeen object index call (entry_of call.id (as_told (answer_to told index) call)) (tags index)
  call_seen index call at = go (tags index) (answer_to told index)
      (looked_up fragment object told may index (recorded_tag object index (slice_get object.calls index)))
    where
      go : (tag : Option Tag) (found : Option Told) →
          IsLookedUp fragment object index (recorded_tag object index (slice_get object.calls index)) tag found →
          IsSeen object index call (entry_of call.id (as_told found call)) tag
      go tag found (inl none) =
          subst₂ (λ t f. IsSeen object index call (entry_of call.id (as_told f call)) t)
          (sym (none.1 ∙ ap (λ o. recorded_tag object index o) at)) (sym none.0)
          (recorded_seen object sound.legal
          (reads_journaled fragment object determines sound.legal sound.values sound.coded sound.settled) index call at)
      go tag found (inr there) =
          let answer = there.0 in
          let is = there.1 in
          let one : is.call ≡ call =
          same_Some is.call call (sym (told_at fragment object answer is) ∙ ap (λ i. slice_get object.calls i) there.2 ∙ at) in
          subst₂ (λ t f. IsSeen object index call (entry_of call.id (as_told f call)) t) (sym there.4) (sym there.3)
          (subst₂ (λ i c. IsSeen object i c (entry_of c.id (as_told (Some answer) c)) (Some is.tag)) there.2 one
          (told_seen fragment object step determines sound answer is))

  entry_there : (index : ℕ) (call : Call) → slice_get object.calls index ≡ Some call →
      slice_get (told_entries object told) index ≡ Some (entry_of call.id (as_told (answer_to told index) call))
  entry_there index call at =
      told_entries-get object told index
      ∙ ap (λ o. option_map (λ (c : Call). entry_of c.id (as_told (answer_to told index) c)) o) at

  -- the history shows the calls
  all_seen : AreSeen object (told_entries object told) tags
  all_seen = record {
    each = λ index entry e. go index entry e (slice_get object.calls index) refl;
    there = λ index call at. (entry_of call.id (as_told (answer_to told index) call), entry_there index call at);
  }
    where
      go : (index : ℕ) (entry : Entry) → slice_get (told_entries object told) index ≡ Some entry → (o : Option Call) →
          slice_get object.calls index ≡ o → (call : Call) × IsSeen object index call entry (tags index)
      go index entry e None none =
          absurd (let clash : None ≡ Some entry = sym (told_entries-get object told index
          ∙ ap (λ o. option_map (λ (c : Call). entry_of c.id (as_told (answer_to told index) c)) o) none) ∙ e in cc)
      go index entry e (Some call) at = (
        call,
        subst (λ y. IsSeen object index call y (tags index))
            (same_Some (entry_of call.id (as_told (answer_to told index) call)) entry (sym (entry_there index call at) ∙ e))
            (call_seen index call at),
      )

  -- so it is atomic
  pub told_atomic : IsAtomic (told_entries object told)
  told_atomic =
      tagged_atomic (told_entries object told) tags (seen_tagged object sound.legal (told_entries object told) tags all_seen)
