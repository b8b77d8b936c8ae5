-- The letter with which a node asks itself to raise the pointer of its bank of a position to final.
use Rattle.std.specs.Prelude.{ℕ, if◌then◌else◌, Option, None, Some}
use Rattle.bank.specs.declared.request.Request.TheVariants as request
use Rattle.bank.specs.declared.status.Status.TheVariants as status
use Rattle.letter.specs.declared.letter.Letter.{Letter}
use Rattle.local_object.specs.Local.{LocalObject, Place, heard_place, layout_here}
use Rattle.local_object.specs.Passed.{can_raise, member_of}
use Rattle.object_letters.specs.Letters.{letter_to}

-- the request to raise the pointer of a place to final, as a letter to this member of it, if there are both
abbrev pub raising_to : LocalObject → Option Place → (member : Option ℕ) → Option Letter
raising_to local None member = None
raising_to local (Some place) None = None
raising_to local (Some place) (Some member) = Some (letter_to local place member (request.Spread status.Final))

-- the letter with which the node asks itself, as the member that it is, to raise the pointer of its bank of a position
-- to final, if it can raise it
abbrev pub raising_letter : LocalObject → (position : ℕ) → Option Letter
raising_letter local position =
    if can_raise local position
    then raising_to local (heard_place local.places position) (member_of (layout_here local position) local.node)
    else None
