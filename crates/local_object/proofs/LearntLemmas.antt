-- What a node knows after it hears of the layouts in a letter, and of the start that it tells.
use Rattle.std.proofs.Common.{◌≡◌, ℕ, suc, Bool, true, false, cond, eqb, List, [], ◌∷◌, ◌++◌, Option, Some, None, IsSome, refl, sym, ap}
use Rattle.std.proofs.Common.{subst, ◌∙◌, eq-eqb}
use Rattle.layout.specs.Layout.{Layout}
use Rattle.letter.specs.declared.letter.Letter.{Letter}
use Rattle.letter.specs.declared.start.Start.{Start}
use Rattle.local_object.specs.Local.{LocalObject, Place, heard_place, layout_in, layout_here, added_place, with_heard, learnt_if}
use Rattle.local_object.specs.Local.{heard_start_if}
use Rattle.local_object.specs.Outcomes.{layouts_learnt, learnt_from}

pub place_push : (places : List Place) (n : ℕ) (p q : Place) → heard_place places n ≡ Some p → heard_place (places ++ q ∷ []) n ≡ Some p
place_push [] n p q at = absurd (cc)
place_push (r ∷ rs) n p q at = go (eqb r.position n) at (λ e. place_push rs n p q e)
  where
    go : (b : Bool) → cond b (Some r) (heard_place rs n) ≡ Some p → (heard_place rs n ≡ Some p → heard_place (rs ++ q ∷ []) n ≡ Some p)
        → cond b (Some r) (heard_place (rs ++ q ∷ []) n) ≡ Some p
    go true at rest = at
    go false at rest = rest at

pub place_new : (places : List Place) (n : ℕ) (q : Place) → q.position ≡ n → heard_place places n ≡ None
    → heard_place (places ++ q ∷ []) n ≡ Some q
place_new [] n q same none = ap (λ b. cond b (Some q) None) (eq-eqb q.position n same)
place_new (r ∷ rs) n q same none = go (eqb r.position n) none (λ e. place_new rs n q same e)
  where
    go : (b : Bool) → cond b (Some r) (heard_place rs n) ≡ None → (heard_place rs n ≡ None → heard_place (rs ++ q ∷ []) n ≡ Some q)
        → cond b (Some r) (heard_place (rs ++ q ∷ []) n) ≡ Some q
    go true none rest = absurd (cc)
    go false none rest = rest none

pub place_added : (places : List Place) (o : Option Place) (m : ℕ) (layout : Layout) (n : ℕ) (p : Place) → heard_place places n ≡ Some p
    → heard_place (added_place places o m layout) n ≡ Some p
place_added places None m layout n p at = place_push places n p (record { position = m; layout = layout; bank = None }) at
place_added places (Some q) m layout n p at = at

pub place_learnt_if : (local : LocalObject) (m : ℕ) (next : Option Layout) (n : ℕ) (p : Place) → heard_place local.places n ≡ Some p
    → heard_place (learnt_if local m next).places n ≡ Some p
place_learnt_if local m None n p at = at
place_learnt_if local m (Some layout) n p at = place_added local.places (heard_place local.places m) m layout n p at

pub place_started : (local : LocalObject) (o : Option Start) (n : ℕ) (p : Place) → heard_place local.places n ≡ Some p
    → heard_place (heard_start_if local o).places n ≡ Some p
place_started local None n p at = at
place_started local (Some start) n p at =
    place_added local.places (heard_place local.places start.position) start.position start.layout n p at

-- the layout that is known, or else the one in the letter
abbrev pub layout_or : Option Layout → Layout → Layout
layout_or None layout = layout
layout_or (Some known) layout = known

-- the position of a letter is known after it
module _ (local : LocalObject) (letter : Letter) where
  abbrev n : ℕ
  n = letter.message.position

  abbrev Known : Type 0
  Known = (p : Place) × (heard_place (learnt_from local letter).places n ≡ Some p)
      × (p.layout ≡ layout_or (layout_here local n) letter.layout)

  known_by : (o : Option Place) → heard_place local.places n ≡ o → Known
  known_by None none =
      let new : Place = record { position = n; layout = letter.layout; bank = None } in
      let at : heard_place (with_heard local n letter.layout).places n ≡ Some new =
      ap (λ o. heard_place (added_place local.places o n letter.layout) n) none ∙ place_new local.places n new refl none in (
        new,
        place_started (layouts_learnt local letter) letter.start n new
            (place_learnt_if (with_heard local n letter.layout) (suc n) letter.next n new at),
        ap (λ o. layout_or (layout_in o) letter.layout) (sym none),
      )
  known_by (Some p) some =
      let at : heard_place (with_heard local n letter.layout).places n ≡ Some p =
      place_added local.places (heard_place local.places n) n letter.layout n p some in (
        p,
        place_started (layouts_learnt local letter) letter.start n p
            (place_learnt_if (with_heard local n letter.layout) (suc n) letter.next n p at),
        ap (λ o. layout_or (layout_in o) letter.layout) (sym some),
      )

  pub place_learnt : Known
  place_learnt = known_by (heard_place local.places n) refl

pub layout_learnt : (local : LocalObject) (letter : Letter)
    → layout_here (learnt_from local letter) letter.message.position
    ≡ Some (layout_or (layout_here local letter.message.position) letter.layout)
layout_learnt local letter =
    let p = place_learnt local letter in ap layout_in p.1 ∙ ap Some p.2

pub known_learnt : (local : LocalObject) (letter : Letter) → IsSome (heard_place (learnt_from local letter).places letter.message.position)
known_learnt local letter =
    let p = place_learnt local letter in subst IsSome (sym p.1) refl

pub known_or : (o : Option Layout) (known layout : Layout) → Some known ≡ o → known ≡ layout_or o layout
known_or None known layout e = absurd (cc)
known_or (Some other) known layout e = cc

pub unknown_or : (o : Option Layout) (layout : Layout) → None ≡ o → layout ≡ layout_or o layout
unknown_or None layout e = refl
unknown_or (Some other) layout e = absurd (cc)

pub node_learnt : (local : LocalObject) (m : ℕ) (next : Option Layout) → (learnt_if local m next).node ≡ local.node
node_learnt local m None = refl
node_learnt local m (Some layout) = refl
