-- The letters of a call's current phase.
use Rattle.std.specs.Prelude.{ℕ, ◌&&◌, Bool, not, if◌then◌else◌, List, map, filter}
use Rattle.encoder.specs.Fragment.{fragment}
use Rattle.layout.specs.Layout.{Layout}
use Rattle.mail.specs.Phase.{has_taken}
use Rattle.mail.specs.declared.phase.Taken.{Taken}
use Rattle.record.specs.declared.call.CallKind.{CallKind}
use Rattle.record.specs.declared.stage.Stage.{Stage}
use Rattle.record.specs.Sending.{fragment_piece, requests}
use Rattle.call.specs.Call.{OpenCall as Machine}
use Rattle.letter.specs.declared.letter.Letter.{Letter}
use Rattle.local_object.specs.Coding.{call_value}
use Rattle.local_object.specs.Early.{is_first_counting}
use Rattle.local_object.specs.Going.{is_restart, next_here}
use Rattle.local_object.specs.Letters.{letter_in}
use Rattle.local_object.specs.Local.{Place}
use Rattle.local_object.specs.Outcomes.{is_read}

-- whether the current phase of a call asks the members for their pieces, too: it is the phase in which a read asks for
-- the pointers of the first position that counts
abbrev pub asks_piece : CallKind → Stage → Bool
asks_piece kind stage = is_read kind && is_first_counting stage

-- the letters of the current phase of a call, to all members of a layout
abbrev pub sent_letters : List Place → (start : ℕ) → Machine → Layout → List Letter
sent_letters places start call layout =
    map (letter_in places start (asks_piece call.kind call.stage) layout)
    (requests call.id call.phase.number call.phase.kind call.phase.position layout.members 0
    (fragment_piece fragment layout (call_value call)))

-- those of the letters that go to members whose replies are not recorded
abbrev pub unanswered : List Taken → List Letter → List Letter
unanswered replies letters = filter (λ letter. not (has_taken replies letter.message.member)) letters

-- those of the letters that a call sends again: all of them if it is to begin anew, and otherwise those to members
-- whose replies are not recorded
abbrev pub due_again : Machine → List Letter → List Letter
due_again call letters =
    if is_restart (next_here call) then letters else unanswered call.phase.replies letters

-- the letters of the current phase of a call that it sends again to members of a layout
abbrev pub missing_letters : List Place → (start : ℕ) → Machine → Layout → List Letter
missing_letters places start call layout = due_again call (sent_letters places start call layout)
