-- What is true of an object to which letters can lead back.
use Rattle.std.proofs.Common.{◌≡◌, ◌+◌, ◌^◌, not, Bool, true, false, List, [], ◌∷◌, ltb-true, refl}
use Rattle.std.proofs.lemmas.Bool.{and_parts}
use Rattle.std.specs.List.{AllByRecursion, list_all}
use Rattle.local_object.specs.Doing.{is_moving}
use Rattle.local_object.specs.Local.{LocalObject, Place}
use Rattle.object_letters.specs.Leading.{HasNextPosition, can_be_led_to, is_place_led_to}

-- what is not true is false
is_not : (b : Bool) → not b ≡ true → b ≡ false
is_not true e = absurd (cc)
is_not false e = refl

-- no move is open
pub not_moving : (local : LocalObject) → can_be_led_to local ≡ true → is_moving local ≡ false
not_moving local led =
    is_not (is_moving local) (and_parts (not (is_moving local)) (list_all is_place_led_to local.places) led).0

-- each of these places has a next position
all_next : (places : List Place) → list_all is_place_led_to places ≡ true → AllByRecursion HasNextPosition places
all_next [] led = tt
all_next (place ∷ places) led =
    let parts = and_parts (is_place_led_to place) (list_all is_place_led_to places) led in
    (ltb-true (place.position + 1) (2 ^ 32) parts.0, all_next places parts.1)

-- each place of the object has a next position
pub have_next : (local : LocalObject) → can_be_led_to local ≡ true → AllByRecursion HasNextPosition local.places
have_next local led =
    all_next local.places (and_parts (not (is_moving local)) (list_all is_place_led_to local.places) led).1
