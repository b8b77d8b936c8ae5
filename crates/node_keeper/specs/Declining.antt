-- Requests that a node serves, and to which it sends no reply, since its bank is closed and they fetch a piece.
use Rattle.std.specs.Prelude.{Bool, true, false, ◌&&◌, not, is_some}
use Rattle.bank.specs.declared.request.Request.{Request}
use Rattle.bank.specs.declared.request.Request.TheVariants as request
use Rattle.mail.specs.declared.message.Body.{Body}
use Rattle.mail.specs.declared.message.Body.TheVariants as body
use Rattle.letter.specs.declared.letter.Letter.{Letter}
use Rattle.local_object.specs.declared.kept_bank.KeptBank.{KeptBank}
use Rattle.local_object.specs.Doing.{is_served}
use Rattle.local_object.specs.KeptBanks.{kept_reply}
use Rattle.local_object.specs.Local.{LocalObject, bank_here}

-- whether a message with this body is a request to which a bank sends no reply
abbrev pub is_declined_by : KeptBank → Body → Bool
is_declined_by bank (body.Request asked) = not (is_some (kept_reply bank asked))
is_declined_by bank (body.Reply kind made) = false

-- whether the node serves a letter, and its bank, which it keeps as the member that the letter names, sends no reply
abbrev pub declines : LocalObject → Letter → Bool
declines local letter =
    is_served local letter
    && is_declined_by (bank_here local letter.message.position letter.message.member) letter.message.body

-- whether a request fetches a piece
abbrev pub is_for_piece : Request → Bool
is_for_piece (request.Fetch tag) = true
is_for_piece asked = false

-- whether a letter with this body fetches a piece
abbrev pub fetches : Body → Bool
fetches (body.Request asked) = is_for_piece asked
fetches (body.Reply kind made) = false
