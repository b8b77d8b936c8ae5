-- Why a layout or an object is not added to a cluster, and what the cluster is once an object is.
use Rattle.std.proofs.Common.{◌≡◌, ℕ, suc, ◌+◌, ◌≤◌, ◌<◌, nat_lt, nat_le, Bool, true}
use Rattle.std.proofs.Common.{false, not, is_some, List, [], ◌∷◌, ◌++◌, length, slice_get, String}
use Rattle.std.proofs.Common.{Global, Option, Some, None, sym, ap, subst, ◌∙◌, arith, add-one}
use Rattle.std.specs.List.{list_all}
use Rattle.std.specs.Map.{lookup}
use Rattle.std.specs.String.{string_bytes, string_eq}
use Rattle.std.proofs.lemmas.Option.{slice_get_past}
use Rattle.indexmap.specs.IndexMap.{insert_entry}
use Rattle.tag.specs.declared.limits.TheConstants.{LONGEST_NAME, MOST_LAYOUTS, MOST_OBJECTS, MOST_STEPS}
use Rattle.tag.specs.declared.refusal.Refusal.{Refusal}
use Rattle.tag.specs.declared.refusal.Refusal.TheVariants.{BadLayout, ObjectExists, TooLong, Full}
use Rattle.layout.specs.Layout.{Layout}
use Rattle.record.specs.Steps.{opened_object}
use Rattle.register.specs.Causes.{unless, if_step}
use Rattle.register.specs.State.{State}
use Rattle.soundness.proofs.ListLemmas.{all_get}
use Rattle.register.proofs.ListLemmas.{length_map}
use Rattle.register.proofs.RoomLemmas.{is_le, le_of, not_le, is_lt, lt_of, not_lt, not_true, passed, step_within, step_past}
use Rattle.cluster.specs.Causes.{if_layout, layout_cause, create_cause}
use Rattle.cluster.specs.Cluster.{Named, Cluster, named}
use Rattle.cluster.specs.Kept.{HasMembersBelow, IsKeptCluster}
use Rattle.cluster.specs.Steps.{with_object, created}
use Rattle.cluster.specs.Summed.{IsCounted}
use Rattle.cluster.proofs.CreationInvariantLemmas.{layout_kept, object_kept, inserted_last}
use Rattle.cluster.proofs.LookupLemmas.{Entry, object_of, objects_of, is_name, named_is, named_none}
use Rattle.cluster.proofs.MoveRefusalLemmas.{IsLayout, layout_found, with_layout}
use Rattle.cluster.proofs.ObjectStepLemmas.{cluster_of}
use Rattle.cluster.proofs.RunningSumLemmas.{object_summed}

-- whether each member is one of this many servers
abbrev pub are_servers : (servers : ℕ) → Layout → Bool
are_servers servers layout = list_all (λ member. nat_lt member servers) layout.members

-- one more step and one more object have room
abbrev room : (counter : ℕ) → List Named → Option Refusal
room counter objects = if_step (suc counter) (unless (nat_lt (length objects) MOST_OBJECTS) Full None)

-- why an object of a new name is not added, by the layout that was found
abbrev by_layout : (counter : ℕ) → List Named → (name : List ℕ) → Option Layout → Option Refusal
by_layout counter objects name found =
    if_layout found (λ layout. unless (nat_le (length name) LONGEST_NAME) TooLong (room counter objects))

-- A layout

module _ {servers : List Bool} {layouts : List Layout} {objects : List Named} {counter : ℕ} {now : Cluster}
    (same : record { servers = servers; layouts = layouts; objects = objects; counter = counter } ≡ now) (layout : Layout) where
  layout_by : (b : Bool) → are_servers (length servers) layout ≡ b
      → layout_cause now layout ≡ unless b BadLayout (if_step (suc counter) (unless (nat_lt (length layouts) MOST_LAYOUTS) Full None))
  layout_by b is = cc (same)

  pub no_servers : are_servers (length servers) layout ≡ false → layout_cause now layout ≡ Some BadLayout
  no_servers is = layout_by false is

  pub no_step_for_layout : are_servers (length servers) layout ≡ true → MOST_STEPS ≤ counter → layout_cause now layout ≡ Some Full
  no_step_for_layout is full = layout_by true is ∙ step_past (suc counter) _ (omega (arith, full))

  pub many_layouts : are_servers (length servers) layout ≡ true → counter < MOST_STEPS → MOST_LAYOUTS ≤ length layouts →
      layout_cause now layout ≡ Some Full
  many_layouts is few many =
      layout_by true is ∙ step_within (suc counter) _ (omega (arith, few))
      ∙ ap (λ b. unless b Full None) (not_lt (length layouts) MOST_LAYOUTS many)

-- what the cluster keeps once the layout is added
pub added_counted : {servers : List Bool} {layouts later : List Layout} {objects : List
    Named} {counter bytes count waiting : ℕ} {loads : List ℕ} (layout : Layout) →
    later ≡ layouts ++ layout ∷ [] → are_servers (length servers) layout ≡ true → counter < MOST_STEPS →
    IsCounted (record { servers = servers; layouts = layouts; objects = objects; counter = counter }) bytes count waiting loads →
    IsCounted (record { servers = servers; layouts = later; objects = objects; counter = counter + 1 }) bytes count waiting loads
added_counted {servers} {layouts} {later} {objects} {counter} {bytes} {count} layout is below few counted = record {
  kept = subst (λ (ls : List Layout).
      IsKeptCluster (record { servers = servers; layouts = ls; objects = objects; counter = counter + 1 }) bytes count) (sym is)
      (subst
      (λ n. IsKeptCluster (record { servers = servers; layouts = layouts ++ layout ∷ []; objects = objects; counter = n }) bytes count)
      (sym (add-one counter))
      (layout_kept (record { servers = servers; layouts = layouts; objects = objects; counter = counter }) bytes count layout counted.kept
      below (omega (arith, few))));
  summed = let s = counted.summed in record { mailed = s.mailed; few = s.few; servers = s.servers; stored = s.stored };
}

-- An object

-- a name that a look-up found, or that it did not find
pub is_named : (entries : List Entry) (name : List ℕ) (b : Bool) → is_some (lookup (is_name name) entries) ≡ b →
    is_some (named (objects_of entries) name) ≡ b
is_named entries name b is = ap (λ (o : Option State). is_some o) (named_is entries name) ∙ is

module _ {servers : List Bool} {layouts : List Layout} {objects : List Named} {counter : ℕ} {now : Cluster}
    (same : record { servers = servers; layouts = layouts; objects = objects; counter = counter } ≡ now)
    (name : List ℕ) (id : ℕ) where
  create_by : (b : Bool) → is_some (named objects name) ≡ b
      → create_cause now name id ≡ unless (not b) ObjectExists (by_layout counter objects name (slice_get layouts id))
  create_by b is = cc (same)

  pub name_taken : is_some (named objects name) ≡ true → create_cause now name id ≡ Some ObjectExists
  name_taken is = create_by true is

  pub no_layout_here : {xs : List Layout} → is_some (named objects name) ≡ false → xs ≡ layouts → length xs ≤ id →
      create_cause now name id ≡ Some BadLayout
  no_layout_here {xs} fresh all past =
      create_by false fresh ∙ ap (by_layout counter objects name) (ap (λ ls. slice_get ls id) (sym all) ∙ slice_get_past xs id past)

  module _ {layout : Layout} (found : IsLayout layouts id layout) (fresh : is_some (named objects name) ≡ false) where
    by_name : create_cause now name id ≡ unless (nat_le (length name) LONGEST_NAME) TooLong (room counter objects)
    by_name = create_by false fresh ∙ ap (by_layout counter objects name) found.here

    pub long_name : LONGEST_NAME < length name → create_cause now name id ≡ Some TooLong
    long_name long = by_name ∙ ap (λ b. unless b TooLong (room counter objects)) (not_le (length name) LONGEST_NAME long)

    module _ (short : length name ≤ LONGEST_NAME) where
      by_room : create_cause now name id ≡ room counter objects
      by_room = by_name ∙ ap (λ b. unless b TooLong (room counter objects)) (is_le (length name) LONGEST_NAME short)

      pub no_step_for_object : MOST_STEPS ≤ counter → create_cause now name id ≡ Some Full
      no_step_for_object full = by_room ∙ step_past (suc counter) _ (omega (arith, full))

      pub many_objects : counter < MOST_STEPS → MOST_OBJECTS ≤ length objects → create_cause now name id ≡ Some Full
      many_objects few many =
          by_room ∙ step_within (suc counter) _ (omega (arith, few))
          ∙ ap (λ b. unless b Full None) (not_lt (length objects) MOST_OBJECTS many)

      pub may_create : counter < MOST_STEPS → length objects < MOST_OBJECTS → create_cause now name id ≡ None
      may_create few few_objects =
          by_room ∙ step_within (suc counter) _ (omega (arith, few))
          ∙ ap (λ b. unless b Full None) (is_lt (length objects) MOST_OBJECTS few_objects)

-- where nothing refuses an object, its name is new, there is its layout, and there is room
pub record MayCreate (layouts : List Layout) (objects : List Named) (counter : ℕ) (name : List ℕ) (id : ℕ) : Type 0 where
  pub fresh : is_some (named objects name) ≡ false
  pub layout : Layout
  pub there : IsLayout layouts id layout
  pub few : counter < MOST_STEPS
  pub few_objects : length objects < MOST_OBJECTS

pub create_allowed : {servers : List Bool} {layouts : List Layout} {objects : List Named} {counter : ℕ} {now : Cluster}
    (name : List ℕ) (id : ℕ) → record { servers = servers; layouts = layouts; objects = objects; counter = counter } ≡ now
    → create_cause now name id ≡ None → MayCreate layouts objects counter name id
create_allowed {servers} {layouts} {objects} {counter} name id same none =
    let held : Cluster = record { servers = servers; layouts = layouts; objects = objects; counter = counter } in
    let own : create_cause held name id ≡ None = subst (λ (k : Cluster). create_cause k name id ≡ None) (sym same) none in
    let new = passed (not (is_some (named objects name))) ObjectExists (by_layout counter objects name (slice_get layouts id)) own in
    let l = with_layout (slice_get layouts id) (λ layout. unless (nat_le (length name) LONGEST_NAME) TooLong (room counter objects))
    new.1 in
    let short = passed (nat_le (length name) LONGEST_NAME) TooLong (room counter objects) l.1.1 in
    let step = passed (nat_le (suc counter) MOST_STEPS) Full (unless (nat_lt (length objects) MOST_OBJECTS) Full None) short.1 in
    let last = passed (nat_lt (length objects) MOST_OBJECTS) Full None step.1 in
    let within = le_of (suc counter) MOST_STEPS step.0 in
    record {
      fresh = not_true (is_some (named objects name)) new.0;
      layout = l.0;
      there = record { here = l.1.0 };
      few = omega (arith, within);
      few_objects = lt_of (length objects) MOST_OBJECTS last.0;
    }

-- as many objects as entries
pub length_objects : (entries : List Entry) → length (objects_of entries) ≡ length entries
length_objects entries = length_map object_of entries

-- the entries once an object with this layout is added under this name
pub record IsAdded (entries : List Entry) (counter : ℕ) (later : List Entry) (name : List ℕ) (layout : Layout)
    (delta : Option ℕ) : Type 0 where
  pub key : String Global
  pub value : State
  pub inserted : later ≡ insert_entry string_eq entries key value
  pub called : string_bytes key ≡ name
  pub opened : value ≡ record { object = opened_object layout delta (counter + 1); last = counter + 1 }
  pub fresh : is_some (lookup (is_name name) entries) ≡ false

module _ {entries : List Entry} {counter : ℕ} {later : List Entry} {name : List ℕ} {layout : Layout}
    (delta : Option ℕ) (added : IsAdded entries counter later name layout delta) where
  no_object : named (objects_of entries) name ≡ None
  no_object = named_none entries name (sym added.fresh)

  object_is : object_of (added.key, added.value)
      ≡ record { name = name; state = record { object = opened_object layout delta (suc counter); last = suc counter } }
  object_is = cc (added.called, added.opened, add-one counter)

  objects_are : objects_of later ≡ objects_of entries
      ++ record { name = name; state = record { object = opened_object layout delta (suc counter); last = suc counter } } ∷ []
  objects_are =
      ap objects_of added.inserted
      ∙ inserted_last entries added.key added.value (subst (λ n. named (objects_of entries) n ≡ None) (sym added.called) no_object)
      ∙ ap (λ (o : Named). objects_of entries ++ o ∷ []) object_is

  cluster_is : (servers : List Bool) (layouts : List Layout)
      → cluster_of servers layouts later (counter + 1) ≡ with_object (cluster_of servers layouts entries counter) name layout delta
  cluster_is servers layouts = cc (add-one counter, objects_are)

  pub created_is : {servers : List Bool} {layouts : List Layout} {now : Cluster} (id : ℕ) →
      cluster_of servers layouts entries counter ≡ now → IsLayout layouts id layout →
      cluster_of servers layouts later (counter + 1) ≡ created now name id delta
  created_is {servers} {layouts} {now} id same found = cc (cluster_is servers layouts, layout_found same found)

  pub created_counted : {servers : List Bool} {layouts : List Layout} {bytes count waiting : ℕ} {loads : List ℕ} (id : ℕ) →
      IsLayout layouts id layout → counter < MOST_STEPS → length (objects_of entries) < MOST_OBJECTS →
      IsCounted (cluster_of servers layouts entries counter) bytes count waiting loads →
      IsCounted (cluster_of servers layouts later (counter + 1)) bytes count waiting loads
  created_counted {servers} {layouts} {bytes} {count} {waiting} {loads} id found few few_objects counted =
      subst (λ (k : Cluster). IsCounted k bytes count waiting loads) (sym (cluster_is servers layouts))
      (record {
        kept = object_kept (cluster_of servers layouts entries counter) bytes count name layout delta counted.kept
            (all_get (HasMembersBelow (length servers)) layouts id layout counted.kept.layouts found.here) no_object
            (omega (arith, few)) few_objects;
        summed = object_summed (cluster_of servers layouts entries counter) waiting loads name layout delta counted.summed;
      })
