-- What comes of a thing that a node does with one object: what it keeps of the object then, and the letters that it
-- sends.
use Rattle.std.specs.Prelude.{ℕ, suc, Bool, true, false, List, [], ◌∷◌, ◌++◌, map, Option, None, Some}
use Rattle.layout.specs.Layout.{Layout}
use Rattle.piece.specs.declared.piece.Piece.{Piece}
use Rattle.bank.specs.Bank.{empty_piece}
use Rattle.bank.specs.declared.kind.Kind.{Kind}
use Rattle.bank.specs.declared.reply.Answer.{Answer as BankAnswer}
use Rattle.bank.specs.declared.reply.Answer.TheVariants as answer
use Rattle.bank.specs.declared.request.Request.{Request}
use Rattle.bank.specs.declared.request.Request.TheVariants as request
use Rattle.bank.specs.declared.status.Status.{Status}
use Rattle.bank.specs.declared.status.Status.TheVariants.{Unset, Pending, Final}
use Rattle.mail.specs.declared.message.Body.{Body}
use Rattle.mail.specs.declared.message.Body.TheVariants as body
use Rattle.mail.specs.declared.message.Message.{Message}
use Rattle.record.specs.declared.call.CallKind.{CallKind}
use Rattle.record.specs.declared.call.CallKind.TheVariants.{Read}
use Rattle.record.specs.declared.stage.Stage.{Stage}
use Rattle.record.specs.Sending.{requests}
use Rattle.record.specs.Steps.{new_phase}
use Rattle.open_calls.specs.OpenCalls.{NodeCall}
use Rattle.letter.specs.declared.letter.Letter.{Letter}
use Rattle.local_object.specs.Local.{LocalObject, heard_start_if, layout_here, learnt_if, told_start, with_heard}

-- what a node keeps afterwards, and the letters that it sends
pub record Outcome : Type 0 where
  pub local : LocalObject
  pub sent : List Letter

-- nothing is sent
abbrev pub silent : LocalObject → Outcome
silent local = record { local = local; sent = [] }

-- Letters

-- the layout, if a pointer with this status says that there is a next position
abbrev pub if_pointed : Status → Option Layout → Option Layout
if_pointed Unset layout = None
if_pointed Pending layout = layout
if_pointed Final layout = layout

-- the layout of the next position, if a request says that there is one
abbrev pub next_in_request : Request → Option Layout → Option Layout
next_in_request (request.Spread status) layout = if_pointed status layout
next_in_request _ layout = None

-- the layout of the next position, if an answer says that there is one
abbrev pub next_in_answer : BankAnswer → Option Layout → Option Layout
next_in_answer (answer.Pointer status) layout = if_pointed status layout
next_in_answer _ layout = None

-- the layout of the next position, if a message with this body says that there is one
abbrev pub next_in_body : Body → Option Layout → Option Layout
next_in_body (body.Request asked) layout = next_in_request asked layout
next_in_body (body.Reply kind made) layout = next_in_answer made.answer layout

-- a message as a letter: with the layout of its position, that of the next one if the message says there is one, and
-- the node's start; it may ask for a piece, and tells nothing
abbrev pub letter_of : LocalObject → (asks : Bool) → Layout → Message → Letter
letter_of local asks layout message = record {
  layout = layout;
  next = next_in_body message.body (layout_here local (suc message.position));
  start = told_start local;
  asks_piece = asks;
  told = None;
  message = message;
}

-- what the node keeps after it hears of the layouts of a letter's position and of the next one
abbrev pub layouts_learnt : LocalObject → Letter → LocalObject
layouts_learnt local letter =
    learnt_if (with_heard local letter.message.position letter.layout) (suc letter.message.position) letter.next

-- what the node keeps after it hears of the layouts in a letter, and of the start that the letter tells
abbrev pub learnt_from : LocalObject → Letter → LocalObject
learnt_from local letter = heard_start_if (layouts_learnt local letter) letter.start

-- the letters that a call sends as it begins a phase at a position with this layout; they may ask for pieces
abbrev pub phase_letters : LocalObject → (asks : Bool) → (call number : ℕ) → Kind → (position : ℕ) → Layout →
    (ℕ → Piece) → List Letter
phase_letters local asks call number kind position layout piece =
    map (letter_of local asks layout) (requests call number kind position layout.members 0 piece)

-- after a change that needs the call, if the node carries it out
abbrev pub on_open_call : LocalObject → Option NodeCall → (NodeCall → Outcome) → Outcome
on_open_call local None change = silent local
on_open_call local (Some call) change = change call

-- whether this is a read: its first phase asks for the members' pieces, too
abbrev pub is_read : CallKind → Bool
is_read Read = true
is_read _ = false

-- after the node begins a call with a first phase of this kind and number, at a position with this layout
abbrev pub begun_here : LocalObject → (id : ℕ) → CallKind → Stage → Kind → (number position : ℕ) → Option Layout →
    Outcome
begun_here local id call_kind stage kind number position None = silent local
begun_here local id call_kind stage kind number position (Some layout) = record {
  local = record local {
    calls = local.calls ++ record {
      node = local.node;
      id = id;
      kind = call_kind;
      settled = None;
      stage = stage;
      phase = new_phase id number kind position layout 0;
    } ∷ [];
  };
  sent = phase_letters local (is_read call_kind) id number kind position layout empty_piece;
}
