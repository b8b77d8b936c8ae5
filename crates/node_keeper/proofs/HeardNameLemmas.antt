-- The names of which a node has heard, and whether letters can lead back to their objects.
use Rattle.std.proofs.Common.{◌≡◌, ◌<◌, ℕ, Bool, true, false, cond, List, [], ◌∷◌, length}
use Rattle.std.proofs.Common.{Option, None, Some, slice_get, nat_eq, option_map, refl, sym, subst, ap, ◌∙◌}
use Rattle.std.proofs.lemmas.Map.Entries.{place_from_lookup}
use Rattle.std.proofs.lemmas.Option.{slice_get-map, slice_get_within}
use Rattle.std.specs.Cmp.Lexicographic.{pointwise}
use Rattle.std.specs.List.{AllByRecursion, IsDistinct}
use Rattle.std.specs.Map.{keys_of, lookup}
use Rattle.indexmap.specs.IndexMap.{IsUnique, get}
use Rattle.local_object.specs.Local.{LocalObject, new_local}
use Rattle.deeds.specs.Named.{is_same_name}
use Rattle.deeds.proofs.NameLemmas.{names_decided}
use Rattle.node_keeper.specs.Objects.{first_layout_of, found_or_new, heard_names, new_of, objects_of}
use Rattle.object_letters.specs.Leading.{can_be_led_to}
use Rattle.recoveries.specs.RewrittenRecords.{is_among}
use Rattle.recoveries.specs.RewritingNodes.{AreDistinctNames, AreHeardNames, CanBeWrittenAnew, HasOwnObjects}
use Rattle.node_keeper.specs.Keeping.{kept_of}
use Rattle.node_keeper.specs.declared.keeper.Keeper.{Keeper}

-- Names

apart_again : (a b : List ℕ) → is_same_name a b ≡ false → is_same_name b a ≡ false
apart_again a b e = go (is_same_name b a) refl
  where
    go : (x : Bool) → is_same_name b a ≡ x → is_same_name b a ≡ false
    go true t = absurd (
        let same : b ≡ a = (names_decided b a).0 t in
        let wrong : false ≡ true = sym e ∙ (names_decided a b).1 (sym same) in cc)
    go false t = t

not_among : (name : List ℕ) (names : List (List ℕ)) → AllByRecursion (λ other. is_same_name name other ≡ false) names →
    is_among names name ≡ false
not_among name [] all = refl
not_among name (first ∷ names) all =
    ap (λ b. cond b true (is_among names name)) (apart_again name first all.0) ∙ not_among name names all.1

distinct_names : (names : List (List ℕ)) → IsDistinct (pointwise nat_eq) names → AreDistinctNames names
unfolding IsDistinct
distinct_names [] distinct = tt
distinct_names (name ∷ names) distinct = (not_among name names distinct.0, distinct_names names distinct.1)

not_found : (name : List ℕ) (entries : List (List ℕ × LocalObject)) → is_among (keys_of entries) name ≡ false →
    lookup (pointwise nat_eq name) entries ≡ None
not_found name [] none = refl
not_found name (first ∷ entries) none = go (is_same_name first.0 name) refl none (λ rest. not_found name entries rest)
  where
    go : (b : Bool) → is_same_name first.0 name ≡ b → cond b true (is_among (keys_of entries) name) ≡ false →
        (is_among (keys_of entries) name ≡ false → lookup (pointwise nat_eq name) entries ≡ None) →
        lookup (pointwise nat_eq name) (first ∷ entries) ≡ None
    go true t none rest = absurd (cc)
    go false t none rest =
        ap (λ b. cond b (Some first.1) (lookup (pointwise nat_eq name) entries)) (apart_again first.0 name t) ∙ rest none

-- the map has the names of which the node has heard
pub heard_of : (keeper : Keeper) → IsUnique (pointwise nat_eq) keeper.objects.by_name → HasOwnObjects (kept_of keeper) →
    AreHeardNames (kept_of keeper) (heard_names keeper.objects)
heard_of keeper unique own = record {
  distinct = distinct_names (heard_names keeper.objects) unique;
  others = λ name none.
      let objects = keeper.objects in
      let new : objects_of objects name ≡ new_of objects name =
      ap (λ o. found_or_new o (new_of objects name)) (not_found name objects.by_name.entries none) in
      let number : objects.number ≡ keeper.ids.node = sym (ap (λ (l : LocalObject). l.node) new) ∙ (own name).node in
      new ∙ ap (λ (n : ℕ). new_local n objects.delta (first_layout_of objects name)) number;
}

-- Objects to which letters can lead back

module _ (keeper : Keeper) where
  abbrev IsLed : List ℕ → Type 0
  IsLed name = can_be_led_to (objects_of keeper.objects name) ≡ true

  pub all_led : ((i : ℕ) (name : List ℕ) → i < length (heard_names keeper.objects) →
      slice_get (heard_names keeper.objects) i ≡ Some name → IsLed name) → CanBeWrittenAnew (kept_of keeper)
  all_led each name = go (get (pointwise nat_eq) keeper.objects.by_name name) refl
    where
      go : (o : Option LocalObject) → get (pointwise nat_eq) keeper.objects.by_name name ≡ o → IsLed name
      go None e = ap (λ o. can_be_led_to (found_or_new o (new_of keeper.objects name))) e
      go (Some local) e =
          let at = place_from_lookup (pointwise nat_eq name) keeper.objects.by_name.entries local e in
          let there : slice_get (heard_names keeper.objects) at.0 ≡ Some at.1 =
          slice_get-map (λ (entry : List ℕ × LocalObject). entry.0) keeper.objects.by_name.entries at.0
          ∙ ap (option_map (λ (entry : List ℕ × LocalObject). entry.0)) at.2 in
          subst IsLed (sym ((names_decided name at.1).0 at.3))
          (each at.0 at.1 (slice_get_within (heard_names keeper.objects) at.0 at.1 there) there)
