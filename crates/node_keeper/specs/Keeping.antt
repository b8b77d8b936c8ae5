-- What a node keeps, as a value of the definitions of `deeds`.
use Rattle.std.specs.Prelude.{◌==◌, ◌&&◌, ◌||◌, not, Bool, if◌then◌else◌, nat_lt, List, [], ◌∷◌, length}
use Rattle.cluster_file.specs.File.{FileContents, placement_of}
use Rattle.cluster_file.specs.Placement.{placed}
use Rattle.letter.specs.declared.letter.Letter.{Letter}
use Rattle.local_object.specs.Agreement.{agrees, knows_all_of}
use Rattle.deeds.specs.Kept.{FileOfNames, KeptNode}
use Rattle.deeds.specs.Named.{NamedLetter as Named}
use Rattle.node_keeper.specs.Objects.{first_layout_of, objects_of}
use Rattle.node_keeper.specs.declared.keeper.Keeper.{Keeper}

-- what a cluster file says, as `deeds` defines it
abbrev pub names_of : FileContents → FileOfNames
names_of file = record {
  delta = file.fixed.delta;
  mover = file.fixed.mover;
  first = placed (placement_of file.fixed);
}

-- what the cluster file of a node says, with the layouts that it gives names
abbrev pub names_of_keeper : Keeper → FileOfNames
names_of_keeper keeper = record {
  delta = keeper.objects.delta;
  mover = keeper.file.fixed.mover;
  first = first_layout_of keeper.objects;
}

-- what the node keeps
abbrev pub kept_of : Keeper → KeptNode
kept_of keeper = record { file = names_of_keeper keeper; objects = objects_of keeper.objects; ids = keeper.ids }

-- whether a letter names a member of its layout
abbrev pub names_member : Letter → Bool
names_member letter = nat_lt letter.message.member (length letter.layout.members)

-- whether the node heeds a letter: it names a member of its layout, no layout in it differs from the one that the node
-- has heard of, and the node that moves objects has heard of every layout in it
abbrev pub heeds : KeptNode → Named → Bool
heeds node it =
    names_member it.letter && (agrees (node.objects it.name) it.letter
    && (not (node.ids.node == node.file.mover) || knows_all_of (node.objects it.name) it.letter))

-- the letter, if the node heeds it
abbrev pub if_heeded : KeptNode → Named → List Named
if_heeded node it = if heeds node it then it ∷ [] else []
