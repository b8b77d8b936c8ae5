-- A node raises the pointer of its bank of a position: it does the same as it serves the letter with which it asks
-- itself to do so.
use Rattle.std.proofs.Common.{◌≡◌, ℕ, suc, ◌<◌, ◌+◌, ◌^◌, Bool, true, false, ◌&&◌, cond, eqb, eqb-true, eq-eqb, List, [], ◌∷◌}
use Rattle.std.proofs.Common.{Option, None, Some, slice_get, refl, sym, subst, ap, ap₂, ◌∙◌}
use Rattle.std.proofs.lemmas.Bool.{lt-ltb}
use Rattle.std.proofs.lemmas.Option.{same_Some}
use Rattle.bank.specs.declared.request.Request.TheVariants as request
use Rattle.bank.specs.declared.status.Status.TheVariants as status
use Rattle.encoder.specs.Fragment.{fragment}
use Rattle.layout.specs.Layout.{Layout}
use Rattle.letter.specs.declared.letter.Letter.{Letter}
use Rattle.letter.specs.declared.start.Start.{Start}
use Rattle.local_object.specs.declared.kept_bank.KeptBank.{KeptBank}
use Rattle.local_object.specs.Agreement.{if_there, is_heard, knows_all_of, start_passes}
use Rattle.local_object.specs.Doing.{is_askable, is_member, is_served, names_node, serve_events, stray_events}
use Rattle.local_object.specs.Events.{LocalEvent, all_done, served_here}
use Rattle.local_object.specs.Local.{LocalObject, Place, added_place, bank_in, heard_place, heard_start_if, layout_here}
use Rattle.local_object.specs.Local.{layout_in, learnt_if, told_start, with_bank_here, with_heard}
use Rattle.local_object.specs.May.{IsAddressed, MayAllHappen}
use Rattle.local_object.specs.Outcomes.{learnt_from}
use Rattle.local_object.specs.Passed.{can_raise, member_of, raise_events}
use Rattle.local_object.proofs.PassedLemmas.{kept_raised, member_named, raisable}
use Rattle.object_letters.specs.Letters.{letter_to}
use Rattle.object_letters.specs.Raising.{raising_letter, raising_to}
use Rattle.object_letters.proofs.ToldStartLemmas.{told_is}
use Rattle.recoveries.proofs.HeardLayoutLemmas.{itself_heard}

-- The letter

-- a place that is found for a position has this position
found_at : (places : List Place) (p : ℕ) (place : Place) → heard_place places p ≡ Some place → place.position ≡ p
found_at [] p place e = absurd cc
found_at (first ∷ places) p place e = go (eqb first.position p) refl e (found_at places p place)
  where
    go : (b : Bool) → eqb first.position p ≡ b → cond b (Some first) (heard_place places p) ≡ Some place
        → (heard_place places p ≡ Some place → place.position ≡ p) → place.position ≡ p
    go true t e rest = ap (λ (o : Place). o.position) (sym (same_Some first place e)) ∙ eqb-true first.position p t
    go false t e rest = rest e

-- the letter is a request to the node itself, as a member of a place that it has heard of
pub record IsRaisingLetter (local : LocalObject) (p : ℕ) (letter : Letter) : Type 0 where
  pub can : can_raise local p ≡ true
  pub place : Place
  pub found : heard_place local.places p ≡ Some place
  pub at : place.position ≡ p
  pub member : ℕ
  pub named : slice_get place.layout.members member ≡ Some local.node
  pub is : letter ≡ letter_to local place member (request.Spread status.Final)

pub raising_is : (local : LocalObject) (p : ℕ) (letter : Letter) → raising_letter local p ≡ Some letter
    → IsRaisingLetter local p letter
raising_is local p letter e = go (can_raise local p) refl e
  where
    made : (o : Option Place) → heard_place local.places p ≡ o → (m : Option ℕ) → member_of (layout_in o) local.node ≡ m
        → can_raise local p ≡ true → raising_to local o m ≡ Some letter → IsRaisingLetter local p letter
    made None at m member can is = absurd cc
    made (Some place) at None member can is = absurd cc
    made (Some place) at (Some i) member can is = let named = member_named (Some place.layout) local.node i member in record {
      can = can;
      place = place;
      found = at;
      at = found_at local.places p place at;
      member = i;
      named = ap (λ (l : Layout). slice_get l.members i) (same_Some place.layout named.layout named.is) ∙ named.server;
      is = sym (same_Some (letter_to local place i (request.Spread status.Final)) letter is);
    }

    go : (b : Bool) → can_raise local p ≡ b
        → cond b (raising_to local (heard_place local.places p) (member_of (layout_here local p) local.node)) None ≡ Some letter
        → IsRaisingLetter local p letter
    go true can is =
        made (heard_place local.places p) refl (member_of (layout_here local p) local.node) refl can is
    go false can is = absurd cc

module _ (local : LocalObject) (place : Place) (found : heard_place local.places place.position ≡ Some place) (member : ℕ) where
  abbrev letter : Letter
  letter = letter_to local place member (request.Spread status.Final)

  abbrev next : Option Layout
  next = layout_here local (suc place.position)

  heard_here : layout_here local place.position ≡ Some place.layout
  heard_here = ap layout_in found

  -- The node knows all of the letter, and learns nothing from it

  if_heard : (o : Option Layout) → if_there (is_heard o) o ≡ true
  if_heard None = refl
  if_heard (Some layout) = itself_heard layout

  start_heard : (o : Option Start) → told_start local ≡ o → start_passes is_heard local o ≡ true
  start_heard None e = refl
  start_heard (Some start) e =
      let is = told_is local start e in
      ap (λ p. is_heard (layout_here local p) start.layout) is.0
      ∙ ap (λ o. is_heard o start.layout) is.1 ∙ itself_heard start.layout

  pub all_known : knows_all_of local letter ≡ true
  all_known =
      ap₂ (λ a b. a && b) (ap (λ o. is_heard o place.layout) heard_here ∙ itself_heard place.layout)
      (ap₂ (λ a b. a && b) (if_heard next) (start_heard (told_start local) refl))

  -- the node hears of a layout that it has heard of
  heard_again : (p : ℕ) (known layout : Layout) → layout_here local p ≡ Some known → with_heard local p layout ≡ local
  heard_again p known layout e = go (heard_place local.places p) e
    where
      go : (o : Option Place) → layout_in o ≡ Some known
          → (record local { places = added_place local.places o p layout }) ≡ local
      go None wrong = absurd cc
      go (Some there) is = refl

  next_again : (o : Option Layout) → next ≡ o → learnt_if local (suc place.position) o ≡ local
  next_again None e = refl
  next_again (Some layout) e = heard_again (suc place.position) layout layout e

  start_again : (o : Option Start) → told_start local ≡ o → heard_start_if local o ≡ local
  start_again None e = refl
  start_again (Some start) e =
      let is = told_is local start e in
      let again = heard_again start.position start.layout start.layout
      (ap (λ p. layout_here local p) is.0 ∙ is.1) in
      ap₂ (λ (places : List Place) (from : ℕ). record local { places = places; start = from })
      (ap (λ (l : LocalObject). l.places) again) (go is.0 _)
    where
      go : start.position ≡ local.start → (b : Bool) → cond b start.position local.start ≡ local.start
      go same true = same
      go same false = refl

  nothing_learnt : learnt_from local letter ≡ local
  nothing_learnt =
      ap (λ (l : LocalObject). heard_start_if (learnt_if l (suc place.position) next) (told_start local))
      (heard_again place.position place.layout place.layout heard_here)
      ∙ ap (λ (l : LocalObject). heard_start_if l (told_start local)) (next_again next refl)
      ∙ start_again (told_start local) refl

  -- The node serves the letter

  module _ (named : slice_get place.layout.members member ≡ Some local.node) (room : place.position + 1 < 2 ^ 32) where
    served : is_served local letter ≡ true
    served =
        ap (λ b. b && is_member (layout_here (learnt_from local letter) place.position) member local.node)
        (lt-ltb (place.position + 1) (2 ^ 32) room)
        ∙ ap (λ (l : LocalObject). is_member (layout_here l place.position) member local.node) nothing_learnt
        ∙ ap (λ o. is_member o member local.node) heard_here
        ∙ ap (λ o. names_node o local.node) named
        ∙ eq-eqb local.node local.node refl

    -- what it does, by whether it serves the letter
    abbrev serves : Bool → List LocalEvent
    serves b = cond b (LocalEvent.Serve letter ∷ []) (cond (is_askable letter) (stray_events local letter) [])

    pub may_serve : MayAllHappen fragment local (serve_events local letter)
    may_serve =
        subst (λ b. MayAllHappen fragment local (serves b)) (sym served) (
          (
            (request.Spread status.Final, refl),
            subst (λ (l : LocalObject). IsAddressed l letter) (sym nothing_learnt) (place.layout, heard_here, named),
          ),
          tt,
        )

    -- this raises the pointer
    pub serving_raises : can_raise local place.position ≡ true
        → (all_done fragment local (serve_events local letter)).local
        ≡ (all_done fragment local (raise_events local place.position)).local
    serving_raises can =
        let bank = bank_in (heard_place local.places place.position) in
        ap (λ b. (all_done fragment local (serves b)).local) served
        ∙ ap (λ (l : LocalObject). (served_here l letter letter.message.body).local) nothing_learnt
        ∙ ap (λ (o : Option KeptBank). record local { places = with_bank_here local.places place.position o })
        (kept_raised bank member local.delta (raisable local place.position can).1)
        ∙ ap (λ b. (all_done fragment local (cond b (LocalEvent.Raise place.position ∷ []) [])).local) (sym can)
