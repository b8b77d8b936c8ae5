-- Of an object whose banks came to be by requests to the node: a node that hears of a position or a start keeps this so.
use Rattle.std.proofs.Common.{◌≡◌, ◌≢◌, ℕ, suc, Bool, true, false, cond, eqb, eq-eqb, List, [], ◌∷◌, ◌++◌}
use Rattle.std.proofs.Common.{Option, Some, None, refl, sym, ◌∙◌}
use Rattle.std.specs.List.{AllByRecursion}
use Rattle.layout.specs.Layout.{Layout, IsLawful}
use Rattle.letter.specs.declared.letter.Letter.{Letter}
use Rattle.letter.specs.declared.start.Start.{Start}
use Rattle.local_object.specs.Local.{LocalObject, Place, added_place, with_heard, learnt_if, heard_place, heard_start_if}
use Rattle.local_object.specs.Outcomes.{layouts_learnt, learnt_from}
use Rattle.object_letters.specs.Rebuildable.{HaveApartPositions, AreElsewhere, HasLawfulLayouts, IsLawfulIfThere, IsLawfulStart}
use Rattle.object_letters.specs.Rebuildable.{IsOwnPlace, IsRebuildable}

elsewhere_none : (places : List Place) (p : ℕ) → heard_place places p ≡ None → AreElsewhere p places
elsewhere_none [] p e = tt
elsewhere_none (place ∷ places) p e = go (eqb place.position p) refl e (λ e. elsewhere_none places p e)
  where
    go : (b : Bool) → eqb place.position p ≡ b → cond b (Some place) (heard_place places p) ≡ None
        → (heard_place places p ≡ None → AreElsewhere p places) → AreElsewhere p (place ∷ places)
    go true t e rest = absurd (cc)
    go false t e rest = (λ same. absurd (let wrong : false ≡ true = sym t ∙ eq-eqb place.position p same in cc), rest e)

elsewhere_push : (q : ℕ) (places : List Place) (new : Place) → AreElsewhere q places → new.position ≢ q
    → AreElsewhere q (places ++ new ∷ [])
elsewhere_push q [] new elsewhere other = (other, tt)
elsewhere_push q (place ∷ places) new elsewhere other = (elsewhere.0, elsewhere_push q places new elsewhere.1 other)

apart_push : (places : List Place) (new : Place) → HaveApartPositions places → AreElsewhere new.position places
    → HaveApartPositions (places ++ new ∷ [])
apart_push [] new apart elsewhere = (tt, tt)
apart_push (place ∷ places) new apart elsewhere =
    (elsewhere_push place.position places new apart.0 (λ e. elsewhere.0 (sym e)), apart_push places new apart.1 elsewhere.1)

all_push : {X : Type 0} (P : X → Type 0) (xs : List X) (x : X) → AllByRecursion P xs → P x → AllByRecursion P (xs ++ x ∷ [])
all_push P [] x all here = (here, tt)
all_push P (y ∷ ys) x all here = (all.0, all_push P ys x all.1 here)

pub heard_rebuildable : (local : LocalObject) (p : ℕ) (layout : Layout) → IsLawful layout → IsRebuildable local
    → IsRebuildable (with_heard local p layout)
heard_rebuildable local p layout lawful is = go (heard_place local.places p) refl
  where
    go : (o : Option Place) → heard_place local.places p ≡ o
        → IsRebuildable (record local { places = added_place local.places o p layout })
    go None e =
        let new : Place = record { position = p; layout = layout; bank = None } in record {
          apart = apart_push local.places new is.apart (elsewhere_none local.places p e);
          places = all_push (IsOwnPlace local.node local.delta) local.places new is.places (record { lawful = lawful; own = tt });
        }
    go (Some place) e = record { apart = is.apart; places = is.places }

heard_if : (local : LocalObject) (p : ℕ) (o : Option Layout) → IsLawfulIfThere o → IsRebuildable local → IsRebuildable (learnt_if local p o)
heard_if local p None lawful is = is
heard_if local p (Some layout) lawful is = heard_rebuildable local p layout lawful is

start_rebuildable : (local : LocalObject) (o : Option Start) → IsLawfulStart o → IsRebuildable local
    → IsRebuildable (heard_start_if local o)
start_rebuildable local None lawful is = is
start_rebuildable local (Some start) lawful is =
    let heard = heard_rebuildable local start.position start.layout lawful is in record { apart = heard.apart; places = heard.places }

pub letter_rebuildable : (local : LocalObject) (letter : Letter) → HasLawfulLayouts letter → IsRebuildable local
    → IsRebuildable (learnt_from local letter)
letter_rebuildable local letter lawful is =
    start_rebuildable (layouts_learnt local letter) letter.start lawful.2
    (heard_if (with_heard local letter.message.position letter.layout) (suc letter.message.position) letter.next lawful.1
    (heard_rebuildable local letter.message.position letter.layout lawful.0 is))
