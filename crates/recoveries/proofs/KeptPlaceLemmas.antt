-- What a restart keeps of the positions of one object, where the node hears of positions, and where a bank changes.
use Rattle.std.proofs.Common.{◌≡◌, ℕ, ◌⊎◌, inl, inr, Bool, true, false, eqb, eqb-true, eq-eqb, Option, Some, None, IsSome, is_some}
use Rattle.std.proofs.Common.{slice_get, refl, sym, subst, ap, ◌∙◌}
use Rattle.std.proofs.lemmas.Option.{same_Some}
use Rattle.layout.specs.Layout.{Layout}
use Rattle.local_object.specs.declared.kept_bank.KeptBank.{KeptBank}
use Rattle.local_object.specs.Local.{LocalObject, bank_here, bank_or_opened, layout_here, with_heard, with_bank_here}
use Rattle.local_object.specs.Restarts.{IsKeptHere}
use Rattle.local_object.proofs.HeardPlaceLemmas.{bank_learnt, bank_with_here, bank_with_there, layout_learnt, layout_stays, layout_with}
use Rattle.local_object.proofs.HeardPlaceLemmas.{no_bank_here}
use Rattle.recoveries.proofs.HeardLayoutLemmas.{Fits, fits_known, layout_after, or_heard}

-- where the node moves objects, the copy has heard of the same layouts
pub layouts_kept : (moves : Type 0) (local copy : LocalObject) → IsKeptHere moves local copy → moves → (q : ℕ) →
    layout_here copy q ≡ layout_here local q
layouts_kept moves local copy kept here q = go (layout_here local q) refl (layout_here copy q) refl
  where
    go : (o : Option Layout) → layout_here local q ≡ o → (p : Option Layout) → layout_here copy q ≡ p → p ≡ o
    go (Some layout) e p f = sym f ∙ kept.mover here q layout e
    go None e None f = refl
    go None e (Some layout) f = absurd (let wrong : None ≡ Some layout = sym e ∙ kept.layouts q layout f in cc)

-- a bank of the node is the copy's, also where the position is not known and no bank is opened
pub bank_kept : (moves : Type 0) (local copy : LocalObject) → IsKeptHere moves local copy → (q member : ℕ) →
    ((layout : Layout) → layout_here local q ≡ Some layout → slice_get layout.members member ≡ Some local.node) →
    bank_here copy q member ≡ bank_here local q member
bank_kept moves local copy kept q member own = go (layout_here local q) refl (layout_here copy q) refl
  where
    go : (o : Option Layout) → layout_here local q ≡ o → (p : Option Layout) → layout_here copy q ≡ p →
        bank_here copy q member ≡ bank_here local q member
    go None e None f =
        ap (λ b. bank_or_opened b member copy.delta) (no_bank_here copy q f)
        ∙ ap (bank_or_opened None member) kept.delta
        ∙ ap (λ b. bank_or_opened b member local.delta) (sym (no_bank_here local q e))
    go None e (Some layout) f = absurd (let wrong : None ≡ Some layout = sym e ∙ kept.layouts q layout f in cc)
    go (Some layout) e p f = kept.banks q member layout e (own layout e)

still_first : (local : LocalObject) (p : ℕ) (layout : Layout) → IsSome (layout_here local 0) →
    IsSome (layout_here (with_heard local p layout) 0)
still_first local p layout first = go (layout_here local 0) refl first
  where
    go : (o : Option Layout) → layout_here local 0 ≡ o → IsSome o → IsSome (layout_here (with_heard local p layout) 0)
    go None e some = absurd (cc)
    go (Some known) e some = ap is_some (layout_stays local p layout 0 known e)

-- Both hear of a position

module _ (moves : Type 0) (local copy : LocalObject) (kept : IsKeptHere moves local copy) (p : ℕ) (layout : Layout) where
  -- the banks stay
  banks_learnt : (q member : ℕ) (other : Layout) → layout_here (with_heard local p layout) q ≡ Some other →
      slice_get other.members member ≡ Some local.node → bank_here copy q member ≡ bank_here local q member
  banks_learnt q member other at holds =
      bank_kept moves local copy kept q member
      (λ known e. ap (λ (l : Layout). slice_get l.members member)
      (same_Some known other (sym (layout_stays local p layout q known e) ∙ at)) ∙ holds)

  both_by : ((q : ℕ) (other : Layout) → layout_here (with_heard copy p layout) q ≡ Some other →
      layout_here (with_heard local p layout) q ≡ Some other) →
      (moves → (q : ℕ) (other : Layout) → layout_here (with_heard local p layout) q ≡ Some other →
      layout_here (with_heard copy p layout) q ≡ Some other) →
      IsKeptHere moves (with_heard local p layout) (with_heard copy p layout)
  both_by within back = record {
    node = kept.node;
    delta = kept.delta;
    start = kept.start;
    layouts = within;
    first = still_first copy p layout kept.first;
    banks = λ q member other at holds.
        bank_learnt copy p layout q member ∙ banks_learnt q member other at holds ∙ sym (bank_learnt local p layout q member);
    reports = kept.reports;
    calls = kept.calls;
    mover = back;
  }

  -- at the node that moves objects
  same_after : moves → (q : ℕ) → layout_here (with_heard copy p layout) q ≡ layout_here (with_heard local p layout) q
  same_after here q =
      layout_after copy p layout q ∙ ap (λ o. or_heard o (eqb p q) layout) (layouts_kept moves local copy kept here q)
      ∙ sym (layout_after local p layout q)

  pub both_moving : moves → IsKeptHere moves (with_heard local p layout) (with_heard copy p layout)
  both_moving here = both_by (λ q other e. sym (same_after here q) ∙ e) (λ also q other e. same_after here q ∙ e)

  -- where the layout fits what was heard of
  pub fits_copy : Fits local p layout → Fits copy p layout
  fits_copy fits = go (layout_here copy p) refl fits
    where
      go : (o : Option Layout) → layout_here copy p ≡ o → Fits local p layout → Fits copy p layout
      go None e fits = inl e
      go (Some other) e (inl none) = absurd (let wrong : None ≡ Some other = sym none ∙ kept.layouts p other e in cc)
      go (Some other) e (inr known) = inr (e ∙ ap Some (same_Some other layout (sym (kept.layouts p other e) ∙ known)))

  -- where it fits, if the copy had not heard of the position
  pub both_fitting : (layout_here copy p ≡ None → Fits local p layout) →
      IsKeptHere moves (with_heard local p layout) (with_heard copy p layout)
  both_fitting fits =
      both_by
      (λ q other e. within q other (layout_here copy q) refl (eqb p q) refl (sym (layout_after copy p layout q) ∙ e))
      (λ here q other e. same_after here q ∙ e)
    where
      within : (q : ℕ) (other : Layout) (o : Option Layout) → layout_here copy q ≡ o → (b : Bool) → eqb p q ≡ b →
          or_heard o b layout ≡ Some other → layout_here (with_heard local p layout) q ≡ Some other
      within q other (Some known) at b t is = layout_stays local p layout q other (kept.layouts q other (at ∙ is))
      within q other None none true t is =
          let here = eqb-true p q t in
          ap (layout_here (with_heard local p layout)) (sym here)
          ∙ fits_known local p layout (fits (ap (layout_here copy) here ∙ none)) ∙ is
      within q other None none false t is = absurd (cc)

  -- the node alone hears of a position
  pub heard_alone : (moves → layout_here local p ≡ Some layout) → IsKeptHere moves (with_heard local p layout) copy
  heard_alone known = record {
    node = kept.node;
    delta = kept.delta;
    start = kept.start;
    layouts = λ q other e. layout_stays local p layout q other (kept.layouts q other e);
    first = kept.first;
    banks = λ q member other at holds. banks_learnt q member other at holds ∙ sym (bank_learnt local p layout q member);
    reports = kept.reports;
    calls = kept.calls;
    mover = λ here q other e. back here q other (layout_learnt local p layout q other e);
  }
    where
      back : moves → (q : ℕ) (other : Layout) → (layout_here local q ≡ Some other) ⊎ ((p ≡ q) × (layout ≡ other)) →
          layout_here copy q ≡ Some other
      back here q other (inl is) = kept.mover here q other is
      back here q other (inr new) = kept.mover here q other (ap (layout_here local) (sym new.0) ∙ known here ∙ ap Some new.1)

-- A bank changes

module _ (moves : Type 0) (local copy : LocalObject) (kept : IsKeptHere moves local copy) (p : ℕ) (bank other : Option KeptBank) where
  -- the copy has this bank as the member that the node is at the position
  abbrev AreOneBank : Type 0
  AreOneBank = (member : ℕ) (layout : Layout) → layout_here local p ≡ Some layout →
      slice_get layout.members member ≡ Some local.node →
      bank_or_opened other member copy.delta ≡ bank_or_opened bank member local.delta

  -- both have a bank at a position of which the copy has heard, or have none there
  pub both_banks : IsSome (layout_here copy p) → AreOneBank → IsKeptHere moves
      (record local { places = with_bank_here local.places p bank }) (record copy { places = with_bank_here copy.places p other })
  both_banks known one = record {
    node = kept.node;
    delta = kept.delta;
    start = kept.start;
    layouts = λ q layout e. layout_with local p bank q ∙ kept.layouts q layout (sym (layout_with copy p other q) ∙ e);
    first = subst IsSome (sym (layout_with copy p other 0)) kept.first;
    banks = λ q member layout at holds. go q (eqb p q) refl member layout (sym (layout_with local p bank q) ∙ at) holds;
    reports = kept.reports;
    calls = kept.calls;
    mover = λ here q layout e. layout_with copy p other q ∙ kept.mover here q layout (sym (layout_with local p bank q) ∙ e);
  }
    where
      known_both : (o : Option Layout) → layout_here copy p ≡ o → IsSome o → IsSome (layout_here local p)
      known_both None e some = absurd (cc)
      known_both (Some layout) e some = ap is_some (kept.layouts p layout e)

      go : (q : ℕ) (b : Bool) → eqb p q ≡ b → (member : ℕ) (layout : Layout) → layout_here local q ≡ Some layout →
          slice_get layout.members member ≡ Some local.node →
          bank_here (record copy { places = with_bank_here copy.places p other }) q member
          ≡ bank_here (record local { places = with_bank_here local.places p bank }) q member
      go q true t member layout at holds =
          ap (λ n. bank_here (record copy { places = with_bank_here copy.places p other }) n member) (sym (eqb-true p q t))
          ∙ bank_with_here copy p other member known
          ∙ one member layout (ap (layout_here local) (eqb-true p q t) ∙ at) holds
          ∙ sym (bank_with_here local p bank member (known_both (layout_here copy p) refl known))
          ∙ ap (λ n. bank_here (record local { places = with_bank_here local.places p bank }) n member) (eqb-true p q t)
      go q false t member layout at holds =
          bank_with_there copy p other q member apart ∙ kept.banks q member layout at holds
          ∙ sym (bank_with_there local p bank q member apart)
        where
          apart : p ≡ q → ⊥
          apart same = absurd (let wrong : false ≡ true = sym t ∙ eq-eqb p q same in cc)
