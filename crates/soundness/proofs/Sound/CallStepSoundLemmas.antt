-- Steps that change one call and the mail keep a record sound, where that call and the mail are.
use Rattle.std.proofs.Common.{◌≡◌, ℕ, zero, suc, ◌<◌, ◌⊎◌, cond, List, [], ◌∷◌, set, Some}
use Rattle.std.proofs.Common.{refl, sym, subst₂, ap, ◌∙◌, inl, inr, arith, slice_get}
use Rattle.std.proofs.lemmas.Bool.{cases_eq}
use Rattle.std.proofs.lemmas.Option.{same_Some}
use Rattle.std.specs.List.{AllByRecursion}
use Rattle.tag.specs.declared.tag.Tag.{Tag}
use Rattle.mail.specs.declared.message.Message.{Message}
use Rattle.record.specs.Records.{Call, Object}
use Rattle.record.specs.declared.call.CallKind.TheVariants.{Write}
use Rattle.record.specs.Legal.{is_move, moves_in, source_of}
use Rattle.record.specs.Journals.{tag_of}
use Rattle.record.specs.Fragments.{Code}
use Rattle.soundness.specs.Sound.{IsSound}
use Rattle.soundness.proofs.ListLemmas.{get_set, set_here, set_there}
use Rattle.soundness.proofs.Sound.ChangedCallLemmas.{Others, Changed, was, moves_set}
use Rattle.soundness.proofs.Sound.GrowthLemmas.{Later, Grows, unchanged, calls_grow, sizes_same}
use Rattle.soundness.proofs.Sound.GrownItemLemmas.{call_grows, grown_sound}
use Rattle.soundness.proofs.Sound.ItemLemmas.{CallSound, MessageSound, CallsInTurn, sizes_of}

moves_same : (calls : List Call) (index : ℕ) (old new : Call) → slice_get calls index ≡ Some old → new.kind ≡ old.kind →
    moves_in (set calls index new) ≡ moves_in calls
moves_same [] index old new at e = refl
moves_same (call ∷ calls) zero old new at e =
    let kind_is : new.kind ≡ call.kind = e ∙ sym (ap (λ (c : Call). c.kind) (same_Some call old at)) in
    ap (λ k. cond (is_move k) (suc (moves_in calls)) (moves_in calls)) kind_is
moves_same (call ∷ calls) (suc index) old new at e = ap (λ m. cond (is_move call.kind) (suc m) m) (moves_same calls index old new at e)

-- a tag that the call had, it has still where it is a write
abbrev pub TagStays : Object → (index : ℕ) → (old new : Call) → Type 0
TagStays object index old new =
    (value : List ℕ) → old.kind ≡ Write value → (tag : Tag) → tag_of object index old ≡ Some tag → tag_of object index new ≡ Some tag

abbrev pub WithCall : Object → List Message → (index : ℕ) → Call → Object
WithCall object mail index new = Others object mail (set object.calls index new)

pub source_stays : (object : Object) (mail : List Message) (index : ℕ) (old new : Call) → slice_get object.calls index ≡ Some old →
    new.kind ≡ old.kind → (i : ℕ) → source_of (WithCall object mail index new) i ≡ source_of object i
source_stays object mail index old new at kinds i = moves_set object.calls index i old new at kinds

module _ {fragment : Code} {object : Object} {step now : ℕ} (sound : IsSound fragment object step) (less : step < now) (index : ℕ)
    (old new : Call) (mail : List Message) (at : slice_get object.calls index ≡ Some old) (changed : Changed old new)
    (stays : TagStays object index old new) where
  pub call_grown : Grows now object (WithCall object mail index new)
  call_grown = calls_grow now object mail (set object.calls index new) (λ i c e. go i c e (cases_eq i index))
    where
      go : (i : ℕ) (c : Call) → slice_get object.calls i ≡ Some c → (i ≡ index) ⊎ (i ≡ index → ⊥) →
          Later object (WithCall object mail index new) i c
      go i c e (inl here) =
          let same : c ≡ old = same_Some c old (sym e ∙ ap (λ k. slice_get object.calls k) here ∙ at) in
          let source = source_stays object mail index old new at changed.same_kind index in
          subst₂ (λ k d. Later object (WithCall object mail index new) k d) (sym here) (sym same) (record {
            other = new;
            at = set_here object.calls index old new at;
            changed = changed;
            source = source;
            tagged = λ value k tag t. rw source (stays value k tag t);
          })
      go i c e (inr other) =
          unchanged i c (set_there object.calls index i new c other e) (source_stays object mail index old new at changed.same_kind i)

  -- the call as it was, in the new record
  pub old_call : CallSound fragment (WithCall object mail index new) now index old
  old_call = call_grows sound less call_grown index old at

  turns : CallsInTurn (set object.calls index new)
  turns = record {
    in_turn = λ i j a b p q before.
        let wa = was object index old new at changed i a p in
        let wb = was object index old new at changed j b q in
        let order = sound.legal.in_turn i j wa.old wb.old wa.at wb.at before in
        let x = wa.changed.same_called in let y = wb.changed.same_called in omega arith;
    ids = λ i j a b p q same.
        let wa = was object index old new at changed i a p in
        let wb = was object index old new at changed j b q in
        sound.legal.ids i j wa.old wb.old wa.at wb.at (sym wa.changed.same_id ∙ same ∙ wb.changed.same_id);
    moves = λ i j a b p q before k l.
        let wa = was object index old new at changed i a p in
        let wb = was object index old new at changed j b q in
        let order = sound.legal.moves i j wa.old wb.old wa.at wb.at before (sym wa.changed.same_kind ∙ k) (sym wb.changed.same_kind ∙ l) in
        (order.0, wa.changed.same_answer order.0 order.1, let y = wb.changed.same_called in let z = order.2 in omega arith);
  }

  pub changed_sound : CallSound fragment (WithCall object mail index new) now index new →
      AllByRecursion (MessageSound fragment (WithCall object mail index new) now) mail →
      IsSound fragment (WithCall object mail index new) now
  changed_sound here messages =
      grown_sound sound less call_grown
      (sizes_same mail (set object.calls index new) (moves_same object.calls index old new at changed.same_kind) (sizes_of sound)) turns
      (λ i c e. go i c (get_set object.calls index i old new c at e)) (λ p i. inl (refl, refl)) messages
    where
      go : (i : ℕ) (c : Call) → ((i ≡ index) × (new ≡ c)) ⊎ (slice_get object.calls i ≡ Some c) →
          (slice_get object.calls i ≡ Some c) ⊎ CallSound fragment (WithCall object mail index new) now i c
      go i c (inl same) =
          inr (subst₂ (λ k d. CallSound fragment (WithCall object mail index new) now k d) (sym same.0) same.1 here)
      go i c (inr there) = inl there
