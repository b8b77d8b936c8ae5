-- What a cluster keeps once a layout or an object is added to it.
use Rattle.std.proofs.Common.{◌≡◌, ℕ, suc, ◌+◌, ◌≤◌, ◌<◌, ◌&&◌, nat_lt, Bool}
use Rattle.std.proofs.Common.{true, false, true≢false, if◌then◌else◌, List, [], ◌∷◌, ◌++◌}
use Rattle.std.proofs.Common.{length, Option, Some, None, String, Global, bytes_eq, refl, sym, ap, ◌∙◌, arith}
use Rattle.std.specs.List.{AllByRecursion, list_all}
use Rattle.std.specs.String.{string_bytes, string_eq}
use Rattle.std.proofs.lemmas.Bool.{false_from_ne_true}
use Rattle.std.proofs.lemmas.Bool.Decides.{nat_tests}
use Rattle.std.proofs.lemmas.Slice.Eq.{bytes_eq-Decides}
use Rattle.indexmap.specs.IndexMap.{insert_entry}
use Rattle.tag.specs.declared.limits.TheConstants.{MOST_OBJECTS, MOST_STEPS}
use Rattle.layout.specs.Layout.{Layout}
use Rattle.record.specs.Steps.{opened_banks, opened_object}
use Rattle.register.specs.Position.{banks_bytes, all_bytes}
use Rattle.register.specs.State.{State}
use Rattle.soundness.proofs.ListLemmas.{all_push}
use Rattle.register.proofs.ListLemmas.{all_weaker, length_push}
use Rattle.register.proofs.OpenedObjectLemmas.{opened_banks_bytes}
use Rattle.std.proofs.lemmas.List.Sums.{sum_by-cons}
use Rattle.cluster.specs.Accounts.{object_sum}
use Rattle.cluster.specs.Causes.{has_servers}
use Rattle.cluster.specs.Cluster.{Named, Cluster, named}
use Rattle.cluster.specs.Kept.{HasMembersBelow, AreNamedApart, IsPlaced, IsKeptCluster}
use Rattle.cluster.specs.Steps.{with_layout, with_object}
use Rattle.cluster.proofs.LookupLemmas.{Entry, object_of, objects_of}
use Rattle.cluster.proofs.StepEffectLemmas.{opened_length}

-- members that pass the test are servers
below_all : (servers : ℕ) (members : List ℕ) → list_all (λ member. nat_lt member servers) members ≡ true →
    AllByRecursion (λ member. member < servers) members
below_all servers [] all = tt
below_all servers (m ∷ members) all = pick (nat_lt m servers) refl (λ rest. below_all servers members rest) all
  where
    pick : (b : Bool) → nat_lt m servers ≡ b →
        (list_all (λ member. nat_lt member servers) members ≡ true → AllByRecursion (λ member. member < servers) members) →
        (b && list_all (λ member. nat_lt member servers) members) ≡ true →
        (m < servers) × AllByRecursion (λ member. member < servers) members
    pick true here rest all = (grind (arith, nat_tests, here), rest all)
    pick false here rest all = absurd (cc)

-- objects whose last steps were past are so a step later
placed_later : (servers counter : ℕ) (objects : List Named) → AllByRecursion (IsPlaced servers counter) objects →
    AllByRecursion (IsPlaced servers (suc counter)) objects
placed_later servers counter objects placed =
    all_weaker (IsPlaced servers counter) (IsPlaced servers (suc counter)) objects
    (λ o p. let past = p.past in record { layouts = p.layouts; banked = p.banked; past = omega (arith, past) }) placed

module _ (cluster : Cluster) (bytes count : ℕ) (layout : Layout) (kept : IsKeptCluster cluster bytes count)
    (below : has_servers cluster layout ≡ true)
    (few : suc cluster.counter ≤ MOST_STEPS) where
  pub layout_kept : IsKeptCluster (with_layout cluster layout) bytes count
  layout_kept = record {
    layouts = all_push (HasMembersBelow (length cluster.servers)) cluster.layouts layout kept.layouts
        (below_all (length cluster.servers) layout.members below);
    objects = placed_later (length cluster.servers) cluster.counter cluster.objects kept.objects;
    apart = kept.apart;
    few_objects = kept.few_objects;
    few_steps = few;
    stored = kept.stored;
    within = kept.within;
    called = kept.called;
    past = let before = kept.past in omega (arith, before);
  }

-- one more object in a sum over all
pub sum_pushed : (f : Named → ℕ) (objects : List Named) (object : Named) →
    object_sum f (objects ++ object ∷ []) ≡ object_sum f objects + f object
sum_pushed f [] object = omega arith
sum_pushed f (o ∷ objects) object = let rest = sum_pushed f objects object in omega (arith, rest)

-- names that differ do so either way
other_name : (a b : List ℕ) → bytes_eq a b ≡ false → bytes_eq b a ≡ false
other_name a b other =
    false_from_ne_true (bytes_eq b a)
    (λ (same : bytes_eq b a ≡ true). true≢false (sym ((bytes_eq-Decides a b).1 (sym ((bytes_eq-Decides b a).0 same))) ∙ other))

-- a name that no object has is apart from each
apart_from : (n : List ℕ) (objects : List Named) (object : Named) → bytes_eq object.name n ≡ false →
    AllByRecursion (λ other. bytes_eq n other.name ≡ false) objects →
    AllByRecursion (λ other. bytes_eq n other.name ≡ false) (objects ++ object ∷ [])
apart_from n objects object other all = all_push (λ o. bytes_eq n o.name ≡ false) objects object all (other_name object.name n other)

apart_pushed : (objects : List Named) (object : Named) → named objects object.name ≡ None → AreNamedApart objects →
    AreNamedApart (objects ++ object ∷ [])
apart_pushed [] object none apart = (tt, tt)
apart_pushed (o ∷ objects) object none apart =
    pick (bytes_eq object.name o.name) refl (λ none. apart_pushed objects object none apart.1) none
  where
    pick : (b : Bool) → bytes_eq object.name o.name ≡ b →
        (named objects object.name ≡ None → AreNamedApart (objects ++ object ∷ [])) →
        (if b then Some o.state else named objects object.name) ≡ None →
        AllByRecursion (λ other. bytes_eq o.name other.name ≡ false) (objects ++ object ∷ [])
        × AreNamedApart (objects ++ object ∷ [])
    pick true same rest none = absurd (cc)
    pick false other rest none = (apart_from o.name objects object other apart.0, rest none)

-- an object that was just opened stores nothing
opened_nothing : (members : List ℕ) (delta : Option ℕ) (now : ℕ) → all_bytes (opened_banks members 0 delta now ∷ []) ≡ 0
opened_nothing members delta now =
    sum_by-cons banks_bytes (opened_banks members 0 delta now) [] ∙ ap (λ n. n + 0) (opened_banks_bytes members 0 delta now)

module _ (cluster : Cluster) (bytes count : ℕ) (name : List ℕ) (layout : Layout) (delta : Option ℕ)
    (kept : IsKeptCluster cluster bytes count) (below : HasMembersBelow (length cluster.servers) layout)
    (fresh : named cluster.objects name ≡ None)
    (few : suc cluster.counter ≤ MOST_STEPS) (few_objects : length cluster.objects < MOST_OBJECTS) where
  abbrev object : Named
  object = record { name = name; state = record { object = opened_object layout delta (suc cluster.counter); last = suc cluster.counter } }

  pub object_kept : IsKeptCluster (with_object cluster name layout delta) bytes count
  object_kept = record {
    layouts = kept.layouts;
    objects = all_push (IsPlaced (length cluster.servers) (suc cluster.counter)) cluster.objects object
        (placed_later (length cluster.servers) cluster.counter cluster.objects kept.objects)
        (record { layouts = (below, tt); banked = (opened_length layout.members 0 delta (suc cluster.counter), tt); past = omega arith });
    apart = apart_pushed cluster.objects object fresh kept.apart;
    few_objects = let more = length_push cluster.objects object in omega (arith, more, few_objects);
    few_steps = few;
    stored = let all = sum_pushed (λ o. all_bytes o.state.object.banks) cluster.objects object in
        omega (arith, all, opened_nothing layout.members delta (suc cluster.counter), kept.stored);
    within = kept.within;
    called = let all = sum_pushed (λ o. length o.state.object.calls) cluster.objects object in
        let before = kept.called in
        omega (arith, all, before);
    past = let before = kept.past in omega (arith, before);
  }

-- a new key goes last
pub inserted_last : (entries : List Entry) (key : String Global) (value : State) → named (objects_of entries) (string_bytes key) ≡ None
    → objects_of (insert_entry string_eq entries key value) ≡ objects_of entries ++ object_of (key, value) ∷ []
inserted_last [] key value none = refl
inserted_last (e ∷ entries) key value none =
    pick (bytes_eq (string_bytes key) (string_bytes e.0)) (λ none. inserted_last entries key value none) none
  where
    pick : (b : Bool) → (named (objects_of entries) (string_bytes key) ≡ None →
        objects_of (insert_entry string_eq entries key value) ≡ objects_of entries ++ object_of (key, value) ∷ []) →
        (if b then Some e.1 else named (objects_of entries) (string_bytes key)) ≡ None →
        objects_of (if b then (e.0, value) ∷ entries else e ∷ insert_entry string_eq entries key value)
        ≡ object_of e ∷ (objects_of entries ++ object_of (key, value) ∷ [])
    pick true rest none = absurd (cc)
    pick false rest none = ap (λ os. object_of e ∷ os) (rest none)
