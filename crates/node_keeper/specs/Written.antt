-- Of which objects a node keeps a written version.
use Rattle.std.specs.Prelude.{ℕ, Bool, false, not, List, length, slice_range, min, Option, None, Some}
use Rattle.std.specs.Prelude.{◌==◌, if◌then◌else◌}
use Rattle.std.specs.List.{filter}
use Rattle.tag.specs.declared.tag.Tag.{Tag}
use Rattle.tag.specs.Tag.{opening_tag, tag_eq}
use Rattle.bank.specs.Serve.{greatest_final}
use Rattle.local_object.specs.declared.kept_bank.KeptBank.{KeptBank}
use Rattle.local_object.specs.declared.kept_bank.KeptBank.TheVariants as kept
use Rattle.local_object.specs.Local.{LocalObject, Place, bank_in, heard_place, last_position}
use Rattle.layout.specs.Layout.{Layout}
use Rattle.node_keeper.specs.Objects.{first_layout_of, heard_names, objects_of}
use Rattle.node_keeper.specs.declared.objects.Objects.{Objects}

-- what the node keeps for the last position of which it has heard
abbrev pub last_place : LocalObject → Option Place
last_place local = heard_place local.places (last_position local)

-- the greatest tag that a bank, open or closed, has finalized
abbrev pub greatest_kept : KeptBank → Tag
greatest_kept (kept.Open bank) = greatest_final bank
greatest_kept (kept.Closed closed) = closed.greatest

-- whether there is a bank, and it has finalized a version that was written: its greatest finalized tag is not the
-- opening one
abbrev pub has_written : Option KeptBank → Bool
has_written None = false
has_written (Some bank) = not (tag_eq (greatest_kept bank) opening_tag)

-- whether the node keeps a written version of an object in its bank of the last position of which it has heard
abbrev pub is_written : LocalObject → Bool
is_written local = has_written (bank_in (last_place local))

-- those of these names of whose objects the node keeps a written version
abbrev pub written_among : Objects → List (List ℕ) → List (List ℕ)
written_among objects names = filter (λ name. is_written (objects_of objects name)) names

-- the names of the objects in the map of which the node keeps a written version, in the map's order
abbrev pub written_names : Objects → List (List ℕ)
written_names objects = written_among objects (heard_names objects)

-- how many places of the map are left to a walk that goes downwards at this cursor: all of them at cursor 0, and never
-- more than there are
abbrev pub scan_end : Objects → (cursor : ℕ) → ℕ
scan_end objects cursor =
    if cursor == 0 then length (heard_names objects) else min cursor (length (heard_names objects))

-- those of the names from one place of the map up to another one of whose objects the node keeps a written version, in
-- the map's order
abbrev pub names_between : Objects → (from end : ℕ) → List (List ℕ)
names_between objects from end = written_among objects (slice_range (heard_names objects) from end)

-- what the node keeps for the last position of which it has heard, or position 0 without a bank if it has heard of none
abbrev pub place_or_first : Option Place → (first : Layout) → Place
place_or_first None first = record { position = 0; layout = first; bank = None }
place_or_first (Some place) first = place

-- what the node keeps of the object of a name for the last position of which it has heard
abbrev pub last_known : Objects → (name : List ℕ) → Place
last_known objects name = place_or_first (last_place (objects_of objects name)) (first_layout_of objects name)
