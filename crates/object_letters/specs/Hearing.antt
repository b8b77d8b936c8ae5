-- The contracts that docs/trusted.md lists do not depend on this file; other contracts and proofs do.
-- A node that hears of the positions of an object, as it starts from a log that has been rewritten.
use Rattle.std.specs.Prelude.{◌==◌, if◌then◌else◌, List, [], ◌∷◌}
use Rattle.local_object.specs.Local.{LocalObject, Place, with_heard}

-- what a node keeps after it hears of the position of a place; of position 0 it has heard already
abbrev pub after_place : LocalObject → Place → LocalObject
after_place local place = if place.position == 0 then local else with_heard local place.position place.layout

-- what it keeps after it hears of the positions of these places, one after another
abbrev pub after_places : LocalObject → List Place → LocalObject
after_places local [] = local
after_places local (place ∷ places) = after_places (after_place local place) places
