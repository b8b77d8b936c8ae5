-- Why a move of an object to a layout of the cluster is refused.
use Rattle.std.proofs.Common.{◌≡◌, ℕ, suc, ◌+◌, ◌≤◌, ◌<◌, Bool, true, false, not}
use Rattle.std.proofs.Common.{List, length, get_or, slice_get, Option, Some, None, refl, sym, subst, ap, ◌∙◌, add-one}
use Rattle.std.proofs.lemmas.Option.{slice_get_past, slice_get_read, slice_get_within, get_or_from_slice_get}
use Rattle.tag.specs.declared.refusal.Refusal.{Refusal}
use Rattle.tag.specs.declared.refusal.Refusal.TheVariants.{BadLayout, MovePending}
use Rattle.layout.specs.Layout.{Layout}
use Rattle.record.specs.Records.{Object, no_layout}
use Rattle.register.specs.Kept.{has_open_move}
use Rattle.register.specs.Causes.{unless, move_cause}
use Rattle.register.proofs.ListLemmas.{same_some}
use Rattle.register.proofs.RoomLemmas.{passed}
use Rattle.register.specs.State.{State}
use Rattle.cluster.specs.Causes.{if_layout, if_object, moving_cause, next, object_cause}
use Rattle.cluster.specs.Cluster.{Named, Cluster, layout_numbered, named}

-- the layout that a look-up gave
pub record IsLayout (layouts : List Layout) (id : ℕ) (layout : Layout) : Type 0 where
  pub here : slice_get layouts id ≡ Some layout

pub is_layout : {layouts xs : List Layout} {id : ℕ} {layout copy : Layout} → xs ≡ layouts → id < length xs →
    layout ≡ get_or xs id layout → copy ≡ layout → IsLayout layouts id copy
is_layout {layouts} {xs} {id} {layout} {copy} all within read copied =
    record {
      here = ap (λ ls. slice_get ls id) (sym all) ∙ slice_get_read xs (length xs) id layout refl within read
          ∙ ap Some (sym copied);
    }

-- it is the cluster's layout of this number
pub layout_found :
    {servers : List Bool} {layouts : List Layout} {objects : List Named} {counter id : ℕ} {now : Cluster} {layout : Layout} →
    record { servers = servers; layouts = layouts; objects = objects; counter = counter } ≡ now → IsLayout layouts id layout →
    layout_numbered now id ≡ layout
layout_found {layouts = layouts} {id = id} {layout = layout} same found =
    ap (λ (k : Cluster). layout_numbered k id) (sym same) ∙ get_or_from_slice_get layouts id layout no_layout found.here

module _ {servers : List Bool} {layouts : List Layout} {objects : List Named} {counter : ℕ} {now : Cluster}
    (same : record { servers = servers; layouts = layouts; objects = objects; counter = counter } ≡ now) (id : ℕ)
    (object : Object) where
  moving_by : (b : Bool) → has_open_move object.calls ≡ b → moving_cause now id object
      ≡ unless (not b) MovePending (if_layout (slice_get layouts id) (λ layout. move_cause layout (suc counter) object))
  moving_by b is = cc (same)

  pub move_pending : has_open_move object.calls ≡ true → moving_cause now id object ≡ Some MovePending
  move_pending is = moving_by true is

  pub move_nowhere : {xs : List Layout} → has_open_move object.calls ≡ false → xs ≡ layouts → length xs ≤ id →
      moving_cause now id object ≡ Some BadLayout
  move_nowhere {xs} none all past = cc (moving_by false none, slice_get_past xs id past)

  pub move_to : (layout : Layout) → IsLayout layouts id layout → has_open_move object.calls ≡ false
      → moving_cause now id object ≡ move_cause layout (counter + 1) object
  move_to layout found none = cc (moving_by false none, found.here, add-one counter)

-- where nothing refuses, there is the layout
pub with_layout : (found : Option Layout) (cause : Layout → Option Refusal) → if_layout found cause ≡ None
    → (layout : Layout) × ((found ≡ Some layout) × (cause layout ≡ None))
with_layout None cause none = absurd (cc)
with_layout (Some layout) cause none = (layout, (refl, none))

-- where nothing refuses a move, there is its layout, and nothing refuses the act
move_allowed : (now : Cluster) (id : ℕ) (found : Option State) → if_object found (moving_cause now id) ≡ None
    → (layout : Layout) × ((slice_get now.layouts id ≡ Some layout) × (if_object found (move_cause layout (next now)) ≡ None))
move_allowed now id None none = absurd (cc)
move_allowed now id (Some s) none =
    with_layout (slice_get now.layouts id) (λ layout. move_cause layout (next now) s.object)
    (passed (not (has_open_move s.object.calls)) MovePending
    (if_layout (slice_get now.layouts id) (λ layout. move_cause layout (next now) s.object)) none).1

pub record MayMove (layouts : List Layout) (id : ℕ) (now : Cluster) (name : List ℕ) : Type 0 where
  pub layout : Layout
  pub there : IsLayout layouts id layout
  pub free : object_cause now name (move_cause layout (next now)) ≡ None

pub may_move : {servers : List Bool} {layouts : List Layout} {objects : List Named} {counter : ℕ} {now : Cluster}
    (name : List ℕ) (id : ℕ) → record { servers = servers; layouts = layouts; objects = objects; counter = counter } ≡ now
    → object_cause now name (moving_cause now id) ≡ None → MayMove layouts id now name
may_move {now = now} name id same none =
    let m = move_allowed now id (named now.objects name) none in
    record { layout = m.0; there = record { here = ap (λ (k : Cluster). slice_get k.layouts id) same ∙ m.1.0 }; free = m.1.1 }

-- the layout that a look-up gave is that of the move
pub move_free : {layouts : List Layout} {id : ℕ} {now : Cluster} {name : List ℕ} {layout : Layout} → MayMove layouts id now name
    → IsLayout layouts id layout → object_cause now name (move_cause layout (next now)) ≡ None
move_free {now = now} {name = name} {layout = layout} m found =
    subst (λ (l : Layout). object_cause now name (move_cause l (next now)) ≡ None)
    (same_some m.layout layout (sym m.there.here ∙ found.here)) m.free

-- there is a layout of a number that has one
pub layout_within : {layouts : List Layout} {id : ℕ} {layout : Layout} → IsLayout layouts id layout → id < length layouts
layout_within {layouts} {id} {layout} found = slice_get_within layouts id layout found.here
