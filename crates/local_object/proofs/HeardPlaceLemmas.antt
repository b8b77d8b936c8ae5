-- What a node keeps for each position: after it hears of a position, after a bank changes, and the last position.
use Rattle.std.proofs.Common.{◌≡◌, ℕ, ◌⊎◌, inl, inr, Bool, true, false, cond, eqb, List, [], ◌∷◌, ◌++◌}
use Rattle.std.proofs.Common.{Option, Some, None, IsSome, option_map, refl, sym, ap, ◌∙◌, eqb-true, eq-eqb}
use Rattle.std.proofs.lemmas.Option.{same_Some}
use Rattle.layout.specs.Layout.{Layout}
use Rattle.local_object.specs.declared.kept_bank.KeptBank.{KeptBank}
use Rattle.local_object.specs.Local.{LocalObject, Place, added_place, bank_here, bank_in, bank_or_opened}
use Rattle.local_object.specs.Local.{layout_here, layout_in, with_heard, heard_place, with_bank_here}
use Rattle.open_calls.proofs.CallsOfNodeLemmas.{differs}

-- The node hears of a position

abbrev new_place : (position : ℕ) → Layout → Place
new_place position layout = record { position = position; layout = layout; bank = None }

-- what is found at a position where one more place follows
abbrev or_new : Option Place → Option Place → Option Place
or_new None new = new
or_new (Some place) new = Some place

at_push : (places : List Place) (new : Place) (q : ℕ) →
    heard_place (places ++ new ∷ []) q ≡ or_new (heard_place places q) (cond (eqb new.position q) (Some new) None)
at_push [] new q = refl
at_push (place ∷ places) new q = go (eqb place.position q) (at_push places new q)
  where
    go : (b : Bool) → heard_place (places ++ new ∷ []) q ≡ or_new (heard_place places q) (cond (eqb new.position q) (Some new) None) →
        cond b (Some place) (heard_place (places ++ new ∷ []) q)
        ≡ or_new (cond b (Some place) (heard_place places q)) (cond (eqb new.position q) (Some new) None)
    go true rest = refl
    go false rest = rest

-- what is found after the node hears of a position
pub place_learnt : (local : LocalObject) (p : ℕ) (layout : Layout) (q : ℕ) →
    heard_place (with_heard local p layout).places q
    ≡ or_new (heard_place local.places q) (cond (eqb p q) (Some (new_place p layout)) None)
place_learnt local p layout q = go (heard_place local.places p) refl
  where
    known : (o : Option Place) (b : Bool) → eqb p q ≡ b → (place : Place) → heard_place local.places p ≡ Some place →
        heard_place local.places q ≡ o → o ≡ or_new o (cond b (Some (new_place p layout)) None)
    known None true t place e here =
        absurd (let wrong : Some place ≡ None = sym e ∙ ap (heard_place local.places) (eqb-true p q t) ∙ here in cc)
    known None false t place e here = refl
    known (Some other) b t place e here = refl

    go : (o : Option Place) → heard_place local.places p ≡ o → heard_place (added_place local.places o p layout) q
        ≡ or_new (heard_place local.places q) (cond (eqb p q) (Some (new_place p layout)) None)
    go None e = at_push local.places (new_place p layout) q
    go (Some place) e = known (heard_place local.places q) (eqb p q) refl place e refl

-- what was known stays known
pub layout_stays : (local : LocalObject) (p : ℕ) (layout : Layout) (q : ℕ) (other : Layout) →
    layout_here local q ≡ Some other → layout_here (with_heard local p layout) q ≡ Some other
layout_stays local p layout q other e =
    ap layout_in (place_learnt local p layout q) ∙ go (heard_place local.places q) e
  where
    go : (o : Option Place) → layout_in o ≡ Some other →
        layout_in (or_new o (cond (eqb p q) (Some (new_place p layout)) None)) ≡ Some other
    go None is = absurd (cc)
    go (Some place) is = is

-- what is known was known, or is what was heard
pub layout_learnt : (local : LocalObject) (p : ℕ) (layout : Layout) (q : ℕ) (other : Layout) →
    layout_here (with_heard local p layout) q ≡ Some other → (layout_here local q ≡ Some other) ⊎ ((p ≡ q) × (layout ≡ other))
layout_learnt local p layout q other e =
    go (heard_place local.places q) (eqb p q) refl (sym (ap layout_in (place_learnt local p layout q)) ∙ e)
  where
    go : (o : Option Place) (b : Bool) → eqb p q ≡ b → layout_in (or_new o (cond b (Some (new_place p layout)) None)) ≡ Some other →
        (layout_in o ≡ Some other) ⊎ ((p ≡ q) × (layout ≡ other))
    go None true t is = inr (eqb-true p q t, same_Some layout other is)
    go None false t is = absurd (cc)
    go (Some place) b t is = inl is

-- a position that was not known is known by what was heard
pub layout_new : (local : LocalObject) (p : ℕ) (layout : Layout) → layout_here local p ≡ None →
    layout_here (with_heard local p layout) p ≡ Some layout
layout_new local p layout e = ap layout_in (place_learnt local p layout p) ∙ go (heard_place local.places p) e
  where
    go : (o : Option Place) → layout_in o ≡ None →
        layout_in (or_new o (cond (eqb p p) (Some (new_place p layout)) None)) ≡ Some layout
    go None is = ap (λ b. layout_in (cond b (Some (new_place p layout)) None)) (eq-eqb p p refl)
    go (Some place) is = absurd (cc)

-- no bank changes
pub bank_learnt : (local : LocalObject) (p : ℕ) (layout : Layout) (q member : ℕ) →
    bank_here (with_heard local p layout) q member ≡ bank_here local q member
bank_learnt local p layout q member =
    ap (λ o. bank_or_opened (bank_in o) member local.delta) (place_learnt local p layout q)
    ∙ go (heard_place local.places q) (eqb p q)
  where
    go : (o : Option Place) (b : Bool) →
        bank_or_opened (bank_in (or_new o (cond b (Some (new_place p layout)) None))) member local.delta
        ≡ bank_or_opened (bank_in o) member local.delta
    go None true = refl
    go None false = refl
    go (Some place) b = refl

-- a position that is not known has no bank
pub no_bank_here : (local : LocalObject) (p : ℕ) → layout_here local p ≡ None → bank_in (heard_place local.places p) ≡ None
no_bank_here local p e = go (heard_place local.places p) e
  where
    go : (o : Option Place) → layout_in o ≡ None → bank_in o ≡ None
    go None is = refl
    go (Some place) is = absurd (cc)

-- A bank changes

abbrev pub with_new : Option KeptBank → Bool → Place → Place
with_new bank b place = cond b (record place { bank = bank }) place

pub place_with : (places : List Place) (p : ℕ) (bank : Option KeptBank) (q : ℕ) →
    heard_place (with_bank_here places p bank) q ≡ option_map (with_new bank (eqb p q)) (heard_place places q)
place_with [] p bank q = refl
place_with (place ∷ places) p bank q =
    go (eqb place.position p) refl (eqb place.position q) refl (place_with places p bank q)
  where
    same : (o : Option Place) → o ≡ option_map (with_new bank false) o
    same None = refl
    same (Some other) = refl

    go : (b : Bool) → eqb place.position p ≡ b → (c : Bool) → eqb place.position q ≡ c →
        heard_place (with_bank_here places p bank) q ≡ option_map (with_new bank (eqb p q)) (heard_place places q) →
        heard_place (cond b (record place { bank = bank } ∷ places) (place ∷ with_bank_here places p bank)) q
        ≡ option_map (with_new bank (eqb p q)) (cond c (Some place) (heard_place places q))
    go true s true t rest =
        ap (λ u. cond u (Some (record place { bank = bank })) (heard_place places q)) t
        ∙ ap (λ u. Some (with_new bank u place))
        (sym (eq-eqb p q (sym (eqb-true place.position p s) ∙ eqb-true place.position q t)))
    go true s false t rest =
        ap (λ u. cond u (Some (record place { bank = bank })) (heard_place places q)) t
        ∙ same (heard_place places q)
        ∙ ap (λ u. option_map (with_new bank u) (heard_place places q))
        (sym (differs p q (λ e. apart (eqb-true place.position p s ∙ e))))
      where
        apart : place.position ≡ q → ⊥
        apart e = absurd (let wrong : false ≡ true = sym t ∙ eq-eqb place.position q e in cc)
    go false s true t rest =
        ap (λ u. cond u (Some place) (heard_place (with_bank_here places p bank) q)) t
        ∙ ap (λ u. Some (with_new bank u place))
        (sym (differs p q (λ e. apart (eqb-true place.position q t ∙ sym e))))
      where
        apart : place.position ≡ p → ⊥
        apart e = absurd (let wrong : false ≡ true = sym s ∙ eq-eqb place.position p e in cc)
    go false s false t rest =
        ap (λ u. cond u (Some place) (heard_place (with_bank_here places p bank) q)) t ∙ rest

-- the layouts stay
pub layout_with : (local : LocalObject) (p : ℕ) (bank : Option KeptBank) (q : ℕ) →
    layout_here (record local { places = with_bank_here local.places p bank }) q ≡ layout_here local q
layout_with local p bank q = ap layout_in (place_with local.places p bank q) ∙ go (eqb p q) (heard_place local.places q)
  where
    go : (b : Bool) (o : Option Place) → layout_in (option_map (with_new bank b) o) ≡ layout_in o
    go b None = refl
    go true (Some place) = refl
    go false (Some place) = refl

-- the bank of the position is the new one
pub bank_with_here : (local : LocalObject) (p : ℕ) (bank : Option KeptBank) (member : ℕ) → IsSome (layout_here local p) →
    bank_here (record local { places = with_bank_here local.places p bank }) p member
    ≡ bank_or_opened bank member local.delta
bank_with_here local p bank member known =
    ap (λ o. bank_or_opened (bank_in o) member local.delta) (place_with local.places p bank p)
    ∙ ap (λ b. bank_or_opened (bank_in (option_map (with_new bank b) (heard_place local.places p))) member local.delta) (eq-eqb p p refl)
    ∙ go (heard_place local.places p) known
  where
    go : (o : Option Place) → IsSome (layout_in o) →
        bank_or_opened (bank_in (option_map (with_new bank true) o)) member local.delta
        ≡ bank_or_opened bank member local.delta
    go None some = absurd (cc)
    go (Some place) some = refl

-- the banks of other positions stay
pub bank_with_there : (local : LocalObject) (p : ℕ) (bank : Option KeptBank) (q member : ℕ) → (p ≡ q → ⊥) →
    bank_here (record local { places = with_bank_here local.places p bank }) q member ≡ bank_here local q member
bank_with_there local p bank q member other =
    ap (λ o. bank_or_opened (bank_in o) member local.delta) (place_with local.places p bank q)
    ∙ ap (λ b. bank_or_opened (bank_in (option_map (with_new bank b) (heard_place local.places q))) member local.delta) (differs p q other)
    ∙ go (heard_place local.places q)
  where
    go : (o : Option Place) → bank_or_opened (bank_in (option_map (with_new bank false) o)) member local.delta
        ≡ bank_or_opened (bank_in o) member local.delta
    go None = refl
    go (Some place) = refl
