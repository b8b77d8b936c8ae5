-- Banks of positions before the object's start. No call that begins from now on needs their pieces, so a node closes
-- them. It first raises the pointers that are not final: each of these positions has a final pointer at a quorum.
use Rattle.std.specs.Prelude.{ℕ, suc, ◌==◌, ◌&&◌, Bool, true, false, if◌then◌else◌, is_some, nat_lt, List, [], ◌∷◌}
use Rattle.std.specs.Prelude.{Option, None, Some}
use Rattle.std.specs.List.{filter_map, position}
use Rattle.layout.specs.Layout.{Layout}
use Rattle.bank.specs.declared.request.Request.TheVariants as request
use Rattle.bank.specs.declared.status.Status.TheVariants as status
use Rattle.local_object.specs.declared.kept_bank.KeptBank.{KeptBank}
use Rattle.local_object.specs.declared.kept_bank.KeptBank.TheVariants as kept
use Rattle.local_object.specs.ChangedBanks.{changes_kept}
use Rattle.local_object.specs.Events.{LocalEvent}
use Rattle.local_object.specs.Local.{LocalObject, Place, bank_in, heard_place, layout_here}

-- whether there is a bank, and it is open
abbrev pub is_open : Option KeptBank → Bool
is_open None = false
is_open (Some (kept.Open bank)) = true
is_open (Some (kept.Closed closed)) = false

-- the position of a place, if it is before this start, and the place has an open bank
abbrev pub passed_in : (start : ℕ) → Place → Option ℕ
passed_in start place = if nat_lt place.position start && is_open place.bank then Some place.position else None

-- the positions before the object's start at which the node keeps an open bank, in the order in which it heard of them
abbrev pub passed_positions : LocalObject → List ℕ
passed_positions local = filter_map (passed_in local.start) local.places

-- whether there is a bank, it is open, and its pointer is not final
abbrev pub is_below_final : Option KeptBank → Bool
is_below_final None = false
is_below_final (Some bank) = changes_kept bank (request.Spread status.Final)

-- the number of the node as a member of a layout, if there is a layout, and the node is a member
abbrev pub member_of : Option Layout → (node : ℕ) → Option ℕ
member_of None node = None
member_of (Some layout) node = position (λ server. server == node) layout.members

-- whether the node can raise the pointer of its bank of a position to final: the position is before the object's start,
-- the bank is open and its pointer is not final, the node is a member of the position, and it has heard of the next one
abbrev pub can_raise : LocalObject → (position : ℕ) → Bool
can_raise local position =
    nat_lt position local.start && (is_below_final (bank_in (heard_place local.places position))
    && (is_some (member_of (layout_here local position) local.node) && is_some (layout_here local (suc position))))

-- what a node does to raise the pointer of its bank of a position: nothing if it cannot be raised
abbrev pub raise_events : LocalObject → (position : ℕ) → List LocalEvent
raise_events local position = if can_raise local position then LocalEvent.Raise position ∷ [] else []
