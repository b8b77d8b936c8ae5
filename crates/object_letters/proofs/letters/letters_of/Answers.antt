use Rattle.std.proofs.Common.{◌≡◌, ℕ, ◌<◌, ◌++◌, List, [], ◌∷◌, length, take, get_or, sym, ap, subst, ◌∙◌}
use Rattle.std.proofs.lemmas.List.{append-nil, append_assoc, take_more}
use Rattle.letter.specs.declared.letter.Letter.{Letter}
use Rattle.local_object.specs.Local.{LocalObject, Place}
use Rattle.object_letters.specs.Letters.{place_letters, places_letters}
use Rattle.object_letters.proofs.letters.letters_of.Goals as goal

module _ (number : ℕ) (local : LocalObject) where
  letters_push : (places : List Place) (place : Place) → places_letters number local (places ++ place ∷ [])
      ≡ places_letters number local places ++ place_letters number local place
  letters_push [] place = append-nil (place_letters number local place)
  letters_push (first ∷ places) place =
      ap (λ (ls : List Letter). place_letters number local first ++ ls) (letters_push places place)
      ∙ sym (append_assoc (place_letters number local first) (places_letters number local places)
      (place_letters number local place))

pub loop-place-preserved : goal.loop-place-preserved
loop-place-preserved c =
    let number = c.args.number in
    let local = c.args.local.now in
    let places = local.places in
    let i = c.loop-place.place-index in
    let place = c.place-item.result in
    let within : i < length places =
    subst (λ (ps : List Place). i < length ps) c.places-place-items.ensures c.loop-place-test.true in
    c.in_ok-push_place.ensures.letters
    ∙ ap (λ (ls : List Letter). ls ++ place_letters number local place) c.loop-place.invariant
    ∙ ap (λ (p : Place). places_letters number local (take i places) ++ place_letters number local p) c.place-item.is
    ∙ ap (λ (ps : List Place). places_letters number local (take i places) ++ place_letters number local (get_or ps i place))
    c.places-place-items.ensures
    ∙ sym (letters_push number local (take i places) (get_or places i place))
    ∙ ap (λ (ps : List Place). places_letters number local ps) (sym (take_more places i place within))
