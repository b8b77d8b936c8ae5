-- The letters that lead a node's new object to one that it keeps, if the node serves them in their order.
use Rattle.std.specs.Prelude.{ℕ, suc, ◌==◌, false, List, [], ◌∷◌, ◌++◌, map, Option, None, Some}
use Rattle.std.specs.List.{position}
use Rattle.encoder.specs.Fragment.{fragment}
use Rattle.bank.specs.declared.request.Request.{Request}
use Rattle.mail.specs.declared.message.Body.TheVariants as body
use Rattle.object_letters.specs.Requests.{requests_for}
use Rattle.letter.specs.declared.letter.Letter.{Letter}
use Rattle.local_object.specs.declared.kept_bank.KeptBank.{KeptBank}
use Rattle.local_object.specs.Local.{LocalObject, Place, layout_here, told_start}
use Rattle.local_object.specs.Events.{all_done}
use Rattle.local_object.specs.Outcomes.{next_in_request}
use Rattle.local_object.specs.Doing.{serve_events}

-- a request to the bank of a place of an object, as a letter to this member of it; its reply goes nowhere, so no call
-- asks, and it asks for no piece; the letter has the layout of the next position where the request says that there is
-- one, and tells the object's start
abbrev pub letter_to : LocalObject → Place → (member : ℕ) → Request → Letter
letter_to local place member asked = record {
  layout = place.layout;
  next = next_in_request asked (layout_here local (suc place.position));
  start = told_start local;
  asks_piece = false;
  told = None;
  message = record {
    call = 0;
    phase = 0;
    position = place.position;
    member = member;
    body = body.Request asked;
  };
}

-- the letters that lead to a bank of a place, if there is one, where the node is this member
abbrev pub bank_letters : LocalObject → Place → (member : Option ℕ) → Option KeptBank → List Letter
bank_letters local place member None = []
bank_letters local place None (Some bank) = []
bank_letters local place (Some member) (Some bank) = map (letter_to local place member) (requests_for bank)

-- the letters that lead to what the node of this number keeps in a place
abbrev pub place_letters : (node : ℕ) → LocalObject → Place → List Letter
place_letters node local place =
    bank_letters local place (position (λ server. server == node) place.layout.members) place.bank

-- the letters that lead to what the node of this number keeps in these places
abbrev pub places_letters : (node : ℕ) → LocalObject → List Place → List Letter
places_letters node local [] = []
places_letters node local (place ∷ places) = place_letters node local place ++ places_letters node local places

-- the letters that lead to the banks of an object, as the node of this number serves them
abbrev pub letters_as : (node : ℕ) → LocalObject → List Letter
letters_as node local = places_letters node local local.places

-- the letters that lead to the banks of an object, as the object's own node serves them
abbrev pub letters_to : LocalObject → List Letter
letters_to local = letters_as local.node local

-- what a node keeps after a letter came that it serves if that is a request to it
abbrev pub after_letter : LocalObject → Letter → LocalObject
after_letter local letter = (all_done fragment local (serve_events local letter)).local

-- what it keeps after these letters, one after another
abbrev pub after_letters : LocalObject → List Letter → LocalObject
after_letters local [] = local
after_letters local (letter ∷ letters) = after_letters (after_letter local letter) letters

-- the start after these letters, each of which tells one: that one, if there are any letters, and otherwise the old one
abbrev pub start_after : List Letter → (old told : ℕ) → ℕ
start_after [] old told = old
start_after (letter ∷ letters) old told = told
