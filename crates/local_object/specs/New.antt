-- The contracts that docs/trusted.md lists do not depend on this file; other contracts and proofs do.
-- Whether an object is one of which the node has not heard.
use Rattle.std.specs.Prelude.{ℕ, nat_eq, ◌&&◌, ◌==◌, Bool, false, is_some, not, List, length, slice_get}
use Rattle.std.specs.Prelude.{Option, None, Some}
use Rattle.std.specs.Option.{option_eq}
use Rattle.layout.specs.Layout.{Layout}
use Rattle.local_object.specs.Agreement.{same_layout}
use Rattle.local_object.specs.Local.{LocalObject, Place}

-- whether a place is position 0 with this layout, and without a bank
abbrev pub is_new_place : (first : Layout) → Place → Bool
is_new_place first place = place.position == 0 && (not (is_some place.bank) && same_layout place.layout first)

-- whether there is a place, and it is position 0 with this layout, and without a bank
abbrev pub is_new_if : (first : Layout) → Option Place → Bool
is_new_if first None = false
is_new_if first (Some place) = is_new_place first place

-- whether position 0 with this layout, and without a bank, is the only place
abbrev pub are_new_places : (first : Layout) → List Place → Bool
are_new_places first places = length places == 1 && is_new_if first (slice_get places 0)

-- whether an object is the new one of the node with this number, with this limit and this first layout
abbrev pub is_new : LocalObject → (node : ℕ) → (delta : Option ℕ) → (first : Layout) → Bool
is_new local node delta first =
    local.node == node && (option_eq nat_eq local.delta delta
    && (local.start == 0 && (length local.calls == 0 && (length local.reports == 0
    && are_new_places first local.places))))
