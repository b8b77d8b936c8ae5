-- A new object that has heard of all positions is as a restart has to keep another one, but for its banks.
use Rattle.std.proofs.Common.{◌≡◌, ℕ, ◌⊎◌, inl, inr, Bool, true, false, cond, eqb, eqb-true, List, [], ◌∷◌}
use Rattle.std.proofs.Common.{Option, None, Some, IsSome, is_some, refl, sym, ap, ◌∙◌}
use Rattle.std.specs.List.{AllByRecursion}
use Rattle.std.proofs.lemmas.Option.{same_Some}
use Rattle.layout.specs.Layout.{Layout}
use Rattle.local_object.specs.Doing.{is_moving}
use Rattle.local_object.specs.Local.{LocalObject, Place, heard_place, layout_here, layout_in, new_local, with_heard}
use Rattle.local_object.proofs.HeardPlaceLemmas.{bank_learnt, layout_learnt, layout_new, layout_stays}
use Rattle.object_letters.specs.Hearing.{after_place, after_places}
use Rattle.object_letters.specs.Laws.{IsBlankOf}
use Rattle.object_letters.specs.Rebuildable.{IsRebuildable}
use Rattle.object_letters.proofs.NewObjectLemmas.{new_blank}
use Rattle.object_letters.proofs.PlaceLetterLemmas.{all_found, at_place}

-- the copy knows every layout that another one knows
abbrev KnowsMore : (less more : LocalObject) → Type 0
KnowsMore less more = (q : ℕ) (layout : Layout) → layout_here less q ≡ Some layout → layout_here more q ≡ Some layout

-- the object knows the layout of a place
abbrev Knows : LocalObject → Place → Type 0
Knows local place = layout_here local place.position ≡ Some place.layout

-- a node that hears of a position goes on knowing the others
still_some : (copy : LocalObject) (p : ℕ) (layout : Layout) (q : ℕ) → IsSome (layout_here copy q)
    → IsSome (layout_here (with_heard copy p layout) q)
still_some copy p layout q some = go (layout_here copy q) refl some
  where
    go : (o : Option Layout) → layout_here copy q ≡ o → IsSome o → IsSome (layout_here (with_heard copy p layout) q)
    go None e some = absurd (cc)
    go (Some other) e some = ap is_some (layout_stays copy p layout q other e)

-- the layout of which a node hears is the one that it then knows, if it knew no other
then_known : (copy : LocalObject) (p : ℕ) (layout : Layout)
    → ((other : Layout) → layout_here copy p ≡ Some other → other ≡ layout)
    → layout_here (with_heard copy p layout) p ≡ Some layout
then_known copy p layout fits = go (layout_here copy p) refl
  where
    go : (o : Option Layout) → layout_here copy p ≡ o → layout_here (with_heard copy p layout) p ≡ Some layout
    go None e = layout_new copy p layout e
    go (Some other) e = layout_stays copy p layout p other e ∙ ap (λ (l : Layout). Some l) (fits other e)

module _ (local : LocalObject) where
  -- what a copy has after it hears of a position that the object knows
  heard : (copy : LocalObject) (p : ℕ) (layout : Layout) → layout_here local p ≡ Some layout → IsBlankOf ⊥ local copy
      → IsBlankOf ⊥ local (with_heard copy p layout)
  heard copy p layout known blank = record {
    node = blank.node;
    delta = blank.delta;
    start = blank.start;
    reports = blank.reports;
    layouts = λ q other e. within q other (layout_learnt copy p layout q other e);
    first = still_some copy p layout 0 blank.first;
    banks = λ q member. bank_learnt copy p layout q member ∙ blank.banks q member;
    calls = blank.calls;
    mover = λ moves q other e. absurd (moves);
  }
    where
      within : (q : ℕ) (other : Layout) → (layout_here copy q ≡ Some other) ⊎ ((p ≡ q) × (layout ≡ other))
          → layout_here local q ≡ Some other
      within q other (inl is) = blank.layouts q other is
      within q other (inr new) = ap (layout_here local) (sym new.0) ∙ known ∙ ap (λ (l : Layout). Some l) new.1

  -- what a copy has after it hears of the position of a place
  record IsHeardPlace (place : Place) (copy after : LocalObject) : Type 0 where
    pub blank : IsBlankOf ⊥ local after
    pub more : KnowsMore copy after
    pub knows : Knows after place

  place_heard : (place : Place) → Knows local place → (copy : LocalObject) → IsBlankOf ⊥ local copy
      → IsHeardPlace place copy (after_place copy place)
  place_heard place known copy blank = go (eqb place.position 0) refl
    where
      first_known : (o : Option Layout) → layout_here copy 0 ≡ o → IsSome o → place.position ≡ 0
          → layout_here copy place.position ≡ Some place.layout
      first_known None e some zero = absurd (cc)
      first_known (Some layout) e some zero =
          let here : layout_here copy place.position ≡ Some layout = ap (layout_here copy) zero ∙ e in
          here ∙ sym (blank.layouts place.position layout here) ∙ known

      go : (b : Bool) → eqb place.position 0 ≡ b
          → IsHeardPlace place copy (cond b copy (with_heard copy place.position place.layout))
      go true e = record {
        blank = blank;
        more = λ q layout is. is;
        knows = first_known (layout_here copy 0) refl blank.first (eqb-true place.position 0 e);
      }
      go false e = record {
        blank = heard copy place.position place.layout known blank;
        more = λ q layout is. layout_stays copy place.position place.layout q layout is;
        knows = then_known copy place.position place.layout
            (λ other is. same_Some other place.layout (sym (blank.layouts place.position other is) ∙ known));
      }

  -- what a copy has after it hears of the positions of these places
  record AreHeardPlaces (places : List Place) (copy after : LocalObject) : Type 0 where
    pub blank : IsBlankOf ⊥ local after
    pub more : KnowsMore copy after
    pub knows : AllByRecursion (Knows after) places

  places_heard : (places : List Place) → AllByRecursion (Knows local) places → (copy : LocalObject)
      → IsBlankOf ⊥ local copy → AreHeardPlaces places copy (after_places copy places)
  places_heard [] known copy blank = record { blank = blank; more = λ q layout is. is; knows = tt }
  places_heard (place ∷ places) known copy blank =
      let one = place_heard place known.0 copy blank in
      let rest = places_heard places known.1 (after_place copy place) one.blank in record {
        blank = rest.blank;
        more = λ q layout is. rest.more q layout (one.more q layout is);
        knows = (rest.more place.position place.layout one.knows, rest.knows);
      }

-- each place is known, if it is found
each_known : (local : LocalObject) (places : List Place)
    → AllByRecursion (λ place. heard_place local.places place.position ≡ Some place) places
    → AllByRecursion (Knows local) places
each_known local [] found = tt
each_known local (place ∷ places) found = (ap layout_in found.0, each_known local places found.1)

-- an object that has heard of all positions
pub heard_blank : (moves : Type 0) (local : LocalObject) (first : Layout) → layout_here local 0 ≡ Some first
    → is_moving local ≡ false → IsRebuildable local
    → IsBlankOf moves local (after_places (new_local local.node local.delta first) local.places)
heard_blank moves local first here still is =
    let new = new_local local.node local.delta first in
    let after = after_places new local.places in
    let all = places_heard local local.places (each_known local local.places (all_found local.places is.apart)) new
    (new_blank ⊥ local first here still (λ moves q layout e. absurd (moves))) in record {
      node = all.blank.node;
      delta = all.blank.delta;
      start = all.blank.start;
      reports = all.blank.reports;
      layouts = all.blank.layouts;
      first = all.blank.first;
      banks = all.blank.banks;
      calls = all.blank.calls;
      mover = λ here q layout e. known after all.knows q layout e (heard_place local.places q) refl;
    }
  where
    known : (after : LocalObject) → AllByRecursion (Knows after) local.places → (q : ℕ) (layout : Layout)
        → layout_here local q ≡ Some layout → (o : Option Place) → heard_place local.places q ≡ o
        → layout_here after q ≡ Some layout
    known after knows q layout heard None e = absurd (let wrong : None ≡ Some layout = sym (ap layout_in e) ∙ heard in cc)
    known after knows q layout heard (Some place) e =
        let there = at_place (Knows after) local.places q place knows e in
        let same : Some place.layout ≡ Some layout = sym (ap layout_in e) ∙ heard in
        ap (layout_here after) (sym there.1) ∙ there.0 ∙ same
