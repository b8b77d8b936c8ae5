-- A list with one more element, and what is found for a position where a node hears of one more.
use Rattle.std.proofs.Common.{◌≡◌, ℕ, Bool, true, false, cond, eqb, eqb-true, List, [], ◌∷◌, ◌++◌, Option, Some, None, refl, sym, ap, ◌∙◌}
use Rattle.std.specs.List.{AllByRecursion}
use Rattle.layout.specs.Layout.{Layout}
use Rattle.local_object.specs.Local.{LocalObject, Place, added_place, heard_place, with_heard}

pub all_push : {X : Type 0} (P : X → Type 0) (xs : List X) (x : X) → AllByRecursion P xs → P x → AllByRecursion P (xs ++ x ∷ [])
all_push P [] x all here = (here, tt)
all_push P (y ∷ ys) x all here = (all.0, all_push P ys x all.1 here)

-- what is found at a position where one more place follows
abbrev pub or_new : Option Place → Option Place → Option Place
or_new None new = new
or_new (Some place) new = Some place

abbrev pub new_place : (position : ℕ) → Layout → Place
new_place position layout = record { position = position; layout = layout; bank = None }

at_push : (places : List Place) (new : Place) (q : ℕ) →
    heard_place (places ++ new ∷ []) q ≡ or_new (heard_place places q) (cond (eqb new.position q) (Some new) None)
at_push [] new q = refl
at_push (place ∷ places) new q = go (eqb place.position q) (at_push places new q)
  where
    go : (b : Bool) → heard_place (places ++ new ∷ []) q ≡ or_new (heard_place places q) (cond (eqb new.position q) (Some new) None) →
        cond b (Some place) (heard_place (places ++ new ∷ []) q)
        ≡ or_new (cond b (Some place) (heard_place places q)) (cond (eqb new.position q) (Some new) None)
    go true rest = refl
    go false rest = rest

-- what is found after the node hears of a position
pub place_heard : (local : LocalObject) (p : ℕ) (layout : Layout) (q : ℕ) →
    heard_place (with_heard local p layout).places q
    ≡ or_new (heard_place local.places q) (cond (eqb p q) (Some (new_place p layout)) None)
place_heard local p layout q = go (heard_place local.places p) refl
  where
    known : (o : Option Place) (b : Bool) → eqb p q ≡ b → (place : Place) → heard_place local.places p ≡ Some place →
        heard_place local.places q ≡ o → o ≡ or_new o (cond b (Some (new_place p layout)) None)
    known None true t place e here =
        absurd (let wrong : Some place ≡ None = sym e ∙ ap (heard_place local.places) (eqb-true p q t) ∙ here in cc)
    known None false t place e here = refl
    known (Some other) b t place e here = refl

    go : (o : Option Place) → heard_place local.places p ≡ o → heard_place (added_place local.places o p layout) q
        ≡ or_new (heard_place local.places q) (cond (eqb p q) (Some (new_place p layout)) None)
    go None e = at_push local.places (new_place p layout) q
    go (Some place) e = known (heard_place local.places q) (eqb p q) refl place e refl
