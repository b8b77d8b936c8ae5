-- What a node does with one object, what it keeps of the object afterwards, and the letters that it sends.
use Rattle.std.specs.Prelude.{ℕ, suc, false, List, [], ◌∷◌, ◌++◌, Option, None, Some}
use Rattle.layout.specs.Layout.{Layout}
use Rattle.piece.specs.declared.piece.Piece.{Piece}
use Rattle.bank.specs.declared.kind.Kind.{Kind}
use Rattle.bank.specs.declared.kind.Kind.TheVariants.{Spread}
use Rattle.bank.specs.declared.reply.Reply.{Reply}
use Rattle.bank.specs.declared.request.Request.{Request}
use Rattle.bank.specs.declared.status.Status.TheVariants.{Pending}
use Rattle.mail.specs.Message.{answered}
use Rattle.mail.specs.declared.message.Body.{Body}
use Rattle.mail.specs.declared.message.Body.TheVariants as body
use Rattle.record.specs.declared.call.CallKind.{CallKind}
use Rattle.record.specs.declared.call.CallKind.TheVariants.{Read, Write, Move}
use Rattle.record.specs.Fragments.{Code}
use Rattle.record.specs.Legal.{first_stage}
use Rattle.record.specs.PhaseOrder.{begun_at}
use Rattle.record.specs.Sending.{fragment_piece, sent_value, value_or_empty}
use Rattle.record.specs.Steps.{new_phase}
use Rattle.open_calls.specs.OpenCalls.{NodeCall, open_call, with_open, without_call, stage_reached, due_phase}
use Rattle.open_calls.specs.OpenCalls.{taking_open}
use Rattle.open_calls.specs.Queries.{queried}
use Rattle.letter.specs.declared.letter.Letter.{Letter}
use Rattle.letter.specs.declared.telling.Telling.{Telling}
use Rattle.mail.specs.declared.message.Message.{Message}
use Rattle.local_object.specs.ChangedBanks.{kept_bank}
use Rattle.local_object.specs.KeptBanks.{after_closing, after_raising, kept_reply}
use Rattle.local_object.specs.Local.{LocalObject, layout_here, bank_here, bank_in, heard_place, with_bank_here}
use Rattle.local_object.specs.Local.{last_position, told_start, with_heard}
use Rattle.local_object.specs.Outcomes.{Outcome, begun_here, learnt_from, letter_of, on_open_call, phase_letters}
use Rattle.local_object.specs.Outcomes.{silent}
use Rattle.local_object.specs.Reports.{reports_after, tags_told, told_by, told_to, without_reports}
use Rattle.local_object.specs.Starting.{anew_number, called_at, number_at, reads_here}

-- what a node does with one object; a call is named by its id, and a bank by its position
pub data LocalEvent : Type 0 where
  BeginRead : (id : ℕ) → LocalEvent
  BeginWrite : (id : ℕ) → List ℕ → LocalEvent
  BeginMove : (id : ℕ) → Layout → LocalEvent
  Advance : (id : ℕ) → LocalEvent
  Serve : Letter → LocalEvent
  Take : Letter → LocalEvent
  Settle : (id : ℕ) → List ℕ → LocalEvent
  Answer : (id : ℕ) → LocalEvent
  GiveUp : (id : ℕ) → LocalEvent
  Close : (position : ℕ) → LocalEvent
  Grow : (id : ℕ) → LocalEvent
  Hear : Letter → LocalEvent
  Redirect : Letter → LocalEvent
  ReadOn : (id : ℕ) → LocalEvent
  BeginAnew : (id : ℕ) → LocalEvent
  Raise : (position : ℕ) → LocalEvent
  EndEarly : (id : ℕ) → Option (List ℕ) → LocalEvent
  Query : (id : ℕ) → LocalEvent

-- Calls

-- after the node begins a read or a write: its first phase reads the sequence of layouts at the start
abbrev pub called_here : LocalObject → (id : ℕ) → CallKind → Outcome
called_here local id kind = called_at local id kind local.start (layout_here local local.start)

-- after the node begins a move from the last position to a new one with this layout
abbrev pub moving_here : LocalObject → (id : ℕ) → Layout → Outcome
moving_here local id layout =
    let last = last_position local in
    let next = with_heard local (suc last) layout in
    begun_here next id Move (first_stage Move last) (Spread Pending) 1 last (layout_here next last)

-- the pieces that a call sends to the members of a position with this layout
abbrev pub pieces_here : Code → Layout → NodeCall → (member : ℕ) → Piece
pieces_here fragment layout call = fragment_piece fragment layout (value_or_empty (sent_value call.kind call.settled))

-- after a call begins a phase at a position with this layout, if the node has heard of it
abbrev pub advanced_at : Code → LocalObject → NodeCall → Kind × ℕ → Option Layout → Outcome
advanced_at fragment local call next None = silent local
advanced_at fragment local call next (Some layout) =
    let number = suc call.phase.number in record {
      local = record local {
        calls = with_open
            (record call {
              stage = begun_at (stage_reached call) next.1;
              phase = new_phase call.id number next.0 next.1 layout 0;
            }) local.calls;
      };
      sent = phase_letters local false call.id number next.0 next.1 layout (pieces_here fragment layout call);
    }

-- after a call begins the phase that is due, if there is one
abbrev pub advanced_here : Code → LocalObject → NodeCall → Option (Kind × ℕ) → Outcome
advanced_here fragment local call None = silent local
advanced_here fragment local call (Some next) = advanced_at fragment local call next (layout_here local next.1)

-- after a call takes a message, with which its member told this
abbrev pub taking_here : LocalObject → NodeCall → Message → Option Telling → LocalObject
taking_here local call message told = record local {
  calls = with_open (taking_open message call) local.calls;
  reports = reports_after call.phase.number message (told_to call.kind told) local.reports;
}

-- after the first reading of a call at a position with this layout, if the node has heard of it, stands for its query
-- too, with the tags that it was told
abbrev pub queried_here : LocalObject → NodeCall → Option Layout → Outcome
queried_here local call None = silent local
queried_here local call (Some layout) =
    silent (record local {
      calls = with_open (queried call layout (tags_told layout call.id call.phase.number local.reports)) local.calls;
    })

-- after a call has ended, and what it was told is dropped
abbrev pub ended_here : LocalObject → (id : ℕ) → LocalObject
ended_here local id = record local {
  calls = without_call id local.calls;
  reports = without_reports id local.reports;
}

-- Messages

-- the letter that carries the reply to a request, if there is one, and tells this
abbrev pub reply_letters : LocalObject → Letter → Option Telling → Option Reply → List Letter
reply_letters local letter told None = []
reply_letters local letter told (Some reply) =
    record (letter_of local false letter.layout (answered letter.message reply)) { told = told } ∷ []

-- after the node's bank serves a request, and its reply is sent, which tells what the bank is then; a bank that this
-- opens is kept only if the request may change it, and a closed bank sends no reply to a fetch
abbrev pub handled_here : LocalObject → Letter → Request → Outcome
handled_here local letter asked =
    let place = letter.message.position in
    let member = letter.message.member in
    let old = bank_in (heard_place local.places place) in
    let after = record local { places = with_bank_here local.places place (kept_bank old member local.delta asked) } in
    record {
      local = after;
      sent = reply_letters local letter (told_by (bank_here after place member) letter.asks_piece)
          (kept_reply (bank_here local place member) asked);
    }

-- after the node serves a letter with this body if it is a request; a reply changes nothing
abbrev pub served_here : LocalObject → Letter → Body → Outcome
served_here local letter (body.Request asked) = handled_here local letter asked
served_here local letter (body.Reply kind made) = silent local

-- after the node closes its bank of a position
abbrev pub closed_here : LocalObject → (position : ℕ) → LocalObject
closed_here local position = record local {
  places = with_bank_here local.places position (after_closing (bank_in (heard_place local.places position)));
}

-- after the node raises the pointer of its bank of a position to final
abbrev pub raised_here : LocalObject → (position : ℕ) → LocalObject
raised_here local position = record local {
  places = with_bank_here local.places position (after_raising (bank_in (heard_place local.places position)));
}

-- after the node sends a letter back, with its own start, to the node that sent it
abbrev pub redirected_here : LocalObject → Letter → Outcome
redirected_here local letter = record { local = local; sent = record letter { start = told_start local } ∷ [] }

-- All events

-- what a node keeps after an event, and the letters that it sends
abbrev pub done_here : Code → LocalObject → LocalEvent → Outcome
done_here fragment local (LocalEvent.BeginRead id) = called_here local id Read
done_here fragment local (LocalEvent.BeginWrite id value) = called_here local id (Write value)
done_here fragment local (LocalEvent.BeginMove id layout) = moving_here local id layout
done_here fragment local (LocalEvent.Advance id) =
    on_open_call local (open_call local.calls id) (λ call. advanced_here fragment local call (due_phase call))
done_here fragment local (LocalEvent.Serve letter) =
    served_here (learnt_from local letter) letter letter.message.body
done_here fragment local (LocalEvent.Take letter) =
    let next = learnt_from local letter in
    on_open_call next (open_call next.calls letter.message.call)
    (λ call. silent (taking_here next call letter.message letter.told))
done_here fragment local (LocalEvent.Settle id value) =
    on_open_call local (open_call local.calls id)
    (λ call. silent (record local { calls = with_open (record call { settled = Some value }) local.calls }))
done_here fragment local (LocalEvent.Answer id) = silent (ended_here local id)
done_here fragment local (LocalEvent.GiveUp id) = silent (ended_here local id)
done_here fragment local (LocalEvent.Close position) = silent (closed_here local position)
done_here fragment local (LocalEvent.Grow id) = silent (record local { start = suc local.start })
done_here fragment local (LocalEvent.Hear letter) = silent (learnt_from local letter)
done_here fragment local (LocalEvent.Redirect letter) = redirected_here local letter
done_here fragment local (LocalEvent.ReadOn id) =
    on_open_call local (open_call local.calls id) (λ call. reads_here local call (number_at call local.start))
done_here fragment local (LocalEvent.BeginAnew id) =
    on_open_call local (open_call local.calls id) (λ call. reads_here local call (anew_number call local.start))
done_here fragment local (LocalEvent.Raise position) = silent (raised_here local position)
done_here fragment local (LocalEvent.EndEarly id value) = silent (ended_here local id)
done_here fragment local (LocalEvent.Query id) =
    on_open_call local (open_call local.calls id)
    (λ call. queried_here local call (layout_here local call.phase.position))

-- after these events, one after another, with all letters in the order in which they were sent
abbrev pub all_done : Code → LocalObject → List LocalEvent → Outcome
all_done fragment local [] = silent local
all_done fragment local (event ∷ events) =
    let first = done_here fragment local event in
    let rest = all_done fragment first.local events in
    record { local = rest.local; sent = first.sent ++ rest.sent }
