-- Calls that ask again: what their objects do, and what the node does.
use Rattle.std.proofs.Common.{◌≡◌, inl, ℕ, Bool, true, false, ◌==◌, List, [], ◌∷◌, length, map, None, nat_eq}
use Rattle.std.proofs.Common.{OnOk, Result, Ok, Err, arith, eqb-true, eq-eqb, refl, sym, subst, ap, ◌∙◌}
use Rattle.std.specs.Cmp.Lexicographic.{pointwise}
use Rattle.std.specs.List.{AllByRecursion}
use Rattle.indexmap.specs.IndexMap.{get}
use Rattle.encoder.specs.Fragment.{fragment}
use Rattle.letter.specs.declared.letter.Letter.{Letter}
use Rattle.local_object.specs.Doing.{IsOutcome}
use Rattle.local_object.specs.Local.{LocalObject}
use Rattle.local_object.specs.ReadingOn.{read_on_events}
use Rattle.local_object.specs.Resent.{IsResent, letters_again}
use Rattle.local_object.proofs.ResentLemmas.{all_resent}
use Rattle.deeds.specs.CallId.{CallIds}
use Rattle.deeds.specs.Deeds.{Notice as Seen}
use Rattle.deeds.proofs.NameLemmas.{own_named, same_named}
use Rattle.recoveries.proofs.LoggedLemmas.{reading_on_unlogged}
use Rattle.node_effects.specs.Work.{IsGrown}
use Rattle.node_effects.specs.declared.work.Work.{Work}
use Rattle.node_effects.proofs.GrowthLemmas.{grown_none}
use Rattle.node_keeper.specs.Acts.{Acts}
use Rattle.node_keeper.specs.Doing.{IsOutcomeAt}
use Rattle.node_keeper.specs.Fitting.{IsSendable}
use Rattle.node_keeper.specs.Keeping.{kept_of}
use Rattle.node_keeper.specs.Objects.{found_or_new, new_of, objects_of}
use Rattle.node_keeper.specs.Resending.{AsksAgain, IsAskedAgain, any_or, asked_again, read_on_here}
use Rattle.node_keeper.specs.Sendings.{asked, member_or, sent_growth}
use Rattle.node_keeper.specs.declared.keeper.Keeper.{Keeper}
use Rattle.node_keeper.specs.declared.objects.Objects.{Objects}
use Rattle.node_keeper.proofs.ActLemmas.{acts_more}
use Rattle.node_keeper.proofs.BegunLemmas.{resent_acts}
use Rattle.node_keeper.proofs.DoneLemmas.{done_of}
use Rattle.node_keeper.proofs.QuietLemmas.{quiet_acts, read_on_fed, read_on_none, read_on_serves_none, read_on_told}
use Rattle.node_keeper.proofs.RequestLemmas.{done_asks}
use Rattle.node_keeper.proofs.SendingLemmas.{asked_addressed, going_letters}

-- Letters that were returned

pub no_letters : (letters : List Letter) (len : ℕ) → len ≡ length letters → (len == 0) ≡ true → letters ≡ []
no_letters [] len is e = refl
no_letters (x ∷ xs) len is e =
    let zero : len ≡ 0 = eqb-true len 0 e in absurd (omega (arith, zero, is))

pub some_letters : (letters : List Letter) (len : ℕ) → len ≡ length letters → (len == 0) ≡ false → letters ≡ [] → ⊥
some_letters [] len is e none = not_both (eq-eqb len 0 is) e
  where
    not_both : {b : Bool} → b ≡ true → b ≡ false → ⊥
    not_both t f = cc
some_letters (x ∷ xs) len is e none = cc

-- what is so whether a call succeeds or not
pub whatever : {T E P : Type 0} (result : Result T E) → P → OnOk result P
whatever (Ok x) p = p
whatever (Err e) p = tt

-- An object

module _ (local new : LocalObject) (id : ℕ) (letters : List Letter) (done : IsOutcome local (read_on_events local id) new letters)
  where
    -- what was done is the same with the letters as they are computed
    pub read_on_done : IsOutcome local (read_on_events local id) new (read_on_here local id).sent
    read_on_done = record { may = done.may; local = done.local; letters = refl }

    asked_as : asked_again local id ≡ any_or letters (letters_again fragment new id)
    asked_as =
        ap (λ ls. any_or ls (letters_again fragment (read_on_here local id).local id)) (sym done.letters)
        ∙ ap (λ (l : LocalObject). any_or letters (letters_again fragment l id)) (sym done.local)

    -- where the call does not go on, its requests are sent again
    pub again_resent : letters ≡ [] → letters_again fragment new id ≡ asked_again local id
    again_resent none = sym (asked_as ∙ ap (λ ls. any_or ls (letters_again fragment new id)) none)

    -- where the call goes on, its requests are those with which it does
    pub again_read : (letters ≡ [] → ⊥) → letters ≡ asked_again local id
    again_read some = go letters some ∙ sym asked_as
      where
        go : (ls : List Letter) → (ls ≡ [] → ⊥) → ls ≡ any_or ls (letters_again fragment new id)
        go [] is = absurd (is refl)
        go (x ∷ xs) is = refl

module _ (objects : Objects) (name : List ℕ) (id : ℕ) (absent : get (pointwise nat_eq) objects.by_name name ≡ None) where
  absent_is : objects_of objects name ≡ new_of objects name
  absent_is = ap (λ found. found_or_new found (new_of objects name)) absent

  -- an object of which the node has not heard has no call that asks again
  pub absent_again : AsksAgain objects name id objects
  absent_again = record {
    letters = [];
    done = record {
      local = objects_of objects name;
      done = subst (λ (l : LocalObject). IsOutcome l (read_on_events l id) l []) (sym absent_is)
          (record { may = tt; local = refl; letters = refl });
      changed = record {
        settings = record { number = refl; delta = refl; placement = refl };
        objects = λ other. same_named (objects_of objects) name other;
      };
    };
  }

  pub absent_letters : asked_again (objects_of objects name) id ≡ []
  absent_letters = ap (λ (l : LocalObject). asked_again l id) absent_is

-- A node

module _ (asker : ℕ) (old new : Keeper) (before : Work) (name : List ℕ) (id : ℕ) (again : IsAskedAgain old name id new) where
  abbrev local : LocalObject
  local = objects_of old.objects name

  abbrev done : IsOutcomeAt old.objects name (read_on_events local id) new.objects again.objects.letters
  done = again.objects.done

  -- the call goes on, and its requests go out; no record is needed
  goes_on : (after : Work) →
      IsGrown before after (sent_growth old.ids.node old.digest (asked old.ids.node name again.objects.letters)) →
      AllByRecursion (IsSendable old.ids.node old.digest) (asked old.ids.node name again.objects.letters) →
      Acts asker [] old before new after
  goes_on after grown fits =
      let n = old.ids.node in
      let letters = again.objects.letters in
      let rest = again.rest in
      quiet_acts asker [] old new before after name (read_on_events local id) done.local letters [] rest.file rest.digest rest.ids
      done.done done.changed (read_on_fed [] name id local) (read_on_none [] name id local) (inl refl)
      (reading_on_unlogged (kept_of old) (kept_of new) name id
      (done_of old new name (read_on_events local id) letters rest.file rest.ids done))
      (record {
        sends = asked n name letters;
        growth = sent_growth n old.digest (asked n name letters);
        grown = grown;
        outputs = refl;
        read = tt;
        idless = tt;
        sent = fits;
        own = refl;
        addressed = asked_addressed n asker [] name letters
            (done_asks local done.local (read_on_events local id) letters done.done (read_on_serves_none [] name id local));
        those = going_letters (member_or n) name letters;
        told = sym (ap (map (Seen.Tells name)) (read_on_told [] name id local));
      })

  -- the object after the call went on, if it did
  after_is : objects_of new.objects name ≡ (read_on_here local id).local
  after_is = done.changed.objects name ∙ own_named (objects_of old.objects) name done.local ∙ done.done.local

  node_is : new.ids.node ≡ old.ids.node
  node_is = ap (λ (i : CallIds). i.node) again.rest.ids

  -- the requests that the call sends again, if it does not go on
  abbrev resent : List Letter
  resent = letters_again fragment (read_on_here local id).local id

  -- a call asks again: it goes on, or its requests are sent again
  pub asked_acts : (after : Work) (letters : List Letter) → letters ≡ asked_again local id →
      IsGrown before after (sent_growth old.ids.node old.digest (asked old.ids.node name letters)) →
      AllByRecursion (IsSendable old.ids.node old.digest) (asked old.ids.node name letters) →
      Acts asker [] old before new after
  asked_acts after letters is grown fits =
      go again.objects.letters refl (is ∙ ap (λ ls. any_or ls resent) (sym done.done.letters))
    where
      are_resent : letters ≡ resent → AllByRecursion (IsResent fragment (objects_of new.objects name)) letters
      are_resent same =
          subst (λ (l : LocalObject). AllByRecursion (IsResent fragment l) letters) (sym after_is)
          (subst (λ ls. AllByRecursion (IsResent fragment (read_on_here local id).local) ls) (sym same)
          (all_resent fragment (read_on_here local id).local id))

      go : (sent : List Letter) → again.objects.letters ≡ sent → letters ≡ any_or sent resent → Acts asker [] old before new after
      go [] none same =
          acts_more asker [] old new new before before after
          (goes_on before
          (subst (λ ls. IsGrown before before (sent_growth old.ids.node old.digest (asked old.ids.node name ls))) (sym none)
          (grown_none before))
          (subst (λ ls. AllByRecursion (IsSendable old.ids.node old.digest) (asked old.ids.node name ls)) (sym none) tt))
          (resent_acts asker new before after name letters (are_resent same)
          (subst (λ n. IsGrown before after (sent_growth n new.digest (asked n name letters))) (sym node_is)
          (subst (λ d. IsGrown before after (sent_growth old.ids.node d (asked old.ids.node name letters)))
          (sym again.rest.digest) grown))
          (subst (λ n. AllByRecursion (IsSendable n new.digest) (asked n name letters)) (sym node_is)
          (subst (λ d. AllByRecursion (IsSendable old.ids.node d) (asked old.ids.node name letters)) (sym again.rest.digest) fits)))
      go (x ∷ xs) some same =
          let those : letters ≡ again.objects.letters = same ∙ sym some in
          goes_on after
          (subst (λ ls. IsGrown before after (sent_growth old.ids.node old.digest (asked old.ids.node name ls))) those grown)
          (subst (λ ls. AllByRecursion (IsSendable old.ids.node old.digest) (asked old.ids.node name ls)) those fits)
