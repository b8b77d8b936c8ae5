-- The contracts that docs/trusted.md lists do not depend on this file; other contracts and proofs do.
-- Letters, by the positions that a node has heard of.
use Rattle.std.specs.Prelude.{ℕ, suc, Bool, List, None}
use Rattle.layout.specs.Layout.{Layout}
use Rattle.mail.specs.declared.message.Message.{Message}
use Rattle.letter.specs.declared.letter.Letter.{Letter}
use Rattle.local_object.specs.Local.{Place, heard_place, layout_in, told_start_in}
use Rattle.local_object.specs.Outcomes.{next_in_body}

-- a message as a letter with the layouts of these places, from a node with this start, as `letter_of` defines it
abbrev pub letter_in : List Place → (start : ℕ) → (asks : Bool) → Layout → Message → Letter
letter_in places start asks layout message = record {
  layout = layout;
  next = next_in_body message.body (layout_in (heard_place places (suc message.position)));
  start = told_start_in places start;
  asks_piece = asks;
  told = None;
  message = message;
}
