-- The contracts that docs/trusted.md lists do not depend on this file; other contracts and proofs do.
-- Banks, messages and phases without stamps. A stamp is the number of a step; without stamps each of them is 0.
use Rattle.std.specs.Prelude.{ℕ, map, Option, option_map}
use Rattle.std.specs.FinMap as map
use Rattle.tag.specs.declared.tag.Tag.{Tag}
use Rattle.bank.specs.Bank.{Bank}
use Rattle.bank.specs.declared.reply.Reply.{Reply}
use Rattle.bank.specs.declared.row.Arrival.{Arrival}
use Rattle.bank.specs.declared.row.Label.{Label}
use Rattle.bank.specs.declared.row.Label.TheVariants.{PreWritten, Finalized}
use Rattle.bank.specs.declared.row.Row.{Row}
use Rattle.bank.specs.declared.status.Pointer.{Pointer}
use Rattle.bank.specs.declared.status.Pointer.TheVariants as pointer
use Rattle.mail.specs.declared.message.Body.{Body}
use Rattle.mail.specs.declared.message.Body.TheVariants as body
use Rattle.mail.specs.declared.message.Message.{Message}
use Rattle.mail.specs.declared.phase.Taken.{Taken}
use Rattle.mail.specs.Phase.{Phase}

-- the stamp of an event without its number, if the event happened
abbrev pub unstamped : Option ℕ → Option ℕ
unstamped came = option_map (λ (step : ℕ). 0) came

-- a label without its stamp
abbrev pub unstamped_label : Label → Label
unstamped_label (PreWritten since) = PreWritten 0
unstamped_label (Finalized since) = Finalized 0

-- an arrival without its stamp
abbrev pub unstamped_arrival : Arrival → Arrival
unstamped_arrival a = record { piece = a.piece; step = 0 }

-- a row of a bank without stamps
abbrev pub unstamped_row : Row → Row
unstamped_row r = record { label = unstamped_label r.label; arrival = option_map unstamped_arrival r.arrival }

-- a tag with its row, without stamps
abbrev pub unstamped_entry : Tag × Row → Tag × Row
unstamped_entry e = (e.0, unstamped_row e.1)

-- a pointer without its stamps
abbrev pub unstamped_pointer : Pointer → Pointer
unstamped_pointer pointer.Unset = pointer.Unset
unstamped_pointer (pointer.Pending since) = pointer.Pending 0
unstamped_pointer (pointer.Final pending since) = pointer.Final 0 0

-- a bank without stamps
abbrev pub unstamped_bank : Bank → Bank
unstamped_bank b = record {
  rows = map.from_sorted (map unstamped_entry (map.entries b.rows));
  pointer = unstamped_pointer b.pointer;
  delta = b.delta;
  retired = unstamped b.retired;
}

-- a reply without its stamp
abbrev pub unstamped_reply : Reply → Reply
unstamped_reply r = record { step = 0; answer = r.answer }

-- the body of a message without its stamp
abbrev pub unstamped_body : Body → Body
unstamped_body (body.Request asked) = body.Request asked
unstamped_body (body.Reply kind made) = body.Reply kind (unstamped_reply made)

-- a message without its stamp
abbrev pub unstamped_message : Message → Message
unstamped_message m = record m { body = unstamped_body m.body }

-- a reply that a phase took, without stamps
abbrev pub unstamped_taken : Taken → Taken
unstamped_taken t = record { member = t.member; reply = unstamped_reply t.reply; step = 0 }

-- a phase without stamps
abbrev pub unstamped_phase : Phase → Phase
unstamped_phase p = record p { start = 0; replies = map unstamped_taken p.replies; end = unstamped p.end }
