-- Layouts that are lawful, and the string of a layout.
use Rattle.std.specs.Prelude.{ℕ, List, [], ◌∷◌, length, Bool, true, Result, Ok, Err}
use Rattle.std.specs.Prelude.{nat_le, nat_eq, ◌&&◌, not, if◌then◌else◌}
use Rattle.std.specs.List.{list_any}
use Rattle.tag.specs.declared.limits.TheConstants.{MOST_MEMBERS}
use Rattle.layout.specs.Layout.{Layout}

-- whether each member is named once
abbrev pub are_named_once : List ℕ → Bool
are_named_once [] = true
are_named_once (member ∷ others) = not (list_any (nat_eq member) others) && are_named_once others

-- whether a layout is lawful: 1 ≤ k ≤ n ≤ MOST_MEMBERS, and no member is named twice
abbrev pub is_lawful : Layout → Bool
is_lawful layout = nat_le 1 layout.k && (nat_le layout.k (length layout.members)
    && (nat_le (length layout.members) MOST_MEMBERS && are_named_once layout.members))

-- this layout, or this fault if it is not lawful
abbrev pub checked_layout : {E : Type 0} → E → Layout → Result Layout E
checked_layout fault layout = if is_lawful layout then Ok layout else Err fault

-- the string of a layout: a byte for k, and then one for each member
abbrev pub layout_string : Layout → List ℕ
layout_string layout = layout.k ∷ layout.members

-- the lawful layout whose string this is, or this fault if there is none
unfoldable pub layout_of_string : {E : Type 0} → E → List ℕ → Result Layout E
layout_of_string fault [] = Err fault
layout_of_string fault (k ∷ members) = checked_layout fault (record { k = k; members = members })
