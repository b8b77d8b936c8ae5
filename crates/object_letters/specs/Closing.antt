-- The contracts that docs/trusted.md lists do not depend on this file; other contracts and proofs do.
-- A node that closes the banks that an object has closed, after letters led to the object.
use Rattle.std.specs.Prelude.{ℕ, Bool, true, false, if◌then◌else◌, List, [], ◌∷◌, Option, None, Some}
use Rattle.encoder.specs.Fragment.{fragment}
use Rattle.local_object.specs.declared.kept_bank.KeptBank.{KeptBank}
use Rattle.local_object.specs.declared.kept_bank.KeptBank.TheVariants as kept
use Rattle.local_object.specs.Doing.{close_events}
use Rattle.local_object.specs.Events.{all_done}
use Rattle.local_object.specs.Local.{LocalObject, Place}

-- whether there is a bank, and it is closed
abbrev pub is_closed : Option KeptBank → Bool
is_closed None = false
is_closed (Some (kept.Open bank)) = false
is_closed (Some (kept.Closed closed)) = true

-- what a node keeps after it closes its bank of a position, if it can
abbrev pub after_close : LocalObject → (position : ℕ) → LocalObject
after_close local position = (all_done fragment local (close_events local position)).local

-- what it keeps after it closes its bank of a place, if the bank of the place is closed
abbrev pub after_place_closed : LocalObject → Place → LocalObject
after_place_closed local place = if is_closed place.bank then after_close local place.position else local

-- what it keeps after it closes its banks of these places, one after another
abbrev pub after_closing_all : LocalObject → List Place → LocalObject
after_closing_all local [] = local
after_closing_all local (place ∷ places) = after_closing_all (after_place_closed local place) places
