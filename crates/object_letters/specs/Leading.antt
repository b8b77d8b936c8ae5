-- The contracts that docs/trusted.md lists do not depend on this file; other contracts and proofs do.
-- To which objects letters can lead back.
use Rattle.std.specs.Prelude.{◌<◌, ◌+◌, ◌^◌, ◌&&◌, not, nat_lt, Bool}
use Rattle.std.specs.List.{list_all}
use Rattle.local_object.specs.Doing.{is_moving}
use Rattle.local_object.specs.Local.{LocalObject, Place}

-- there is a number in 32 bits for the position after that of a place
abbrev pub HasNextPosition : Place → Type 0
HasNextPosition place = place.position + 1 < 2 ^ 32

-- whether there is such a number
abbrev pub is_place_led_to : Place → Bool
is_place_led_to place = nat_lt (place.position + 1) (2 ^ 32)

-- whether letters can lead back to this object, from a new one that hears of its positions first: no move is open, and
-- there is a number for the position after each one
abbrev pub can_be_led_to : LocalObject → Bool
can_be_led_to local = not (is_moving local) && list_all is_place_led_to local.places
