-- The phases of a call may run if their requests were sent, and if the banks answer what the call takes.
use Rattle.std.proofs.Common.{◌≡◌, ℕ, zero, suc, List, [], ◌∷◌, ◌++◌, length, Option, None, Some, refl, ap, ◌∙◌, slice_get}
use Rattle.bank.specs.declared.reply.Answer.{Answer}
use Rattle.bank.specs.declared.request.Request.{Request}
use Rattle.bank.specs.declared.request.Request.TheVariants as request
use Rattle.bank.specs.Serve.{answer_to, kind_of}
use Rattle.mail.specs.declared.message.Body.TheVariants as body
use Rattle.mail.specs.declared.message.Message.{Message}
use Rattle.open_calls.specs.OpenCalls.{NodeCall, open_call, with_open, taking_open}
use Rattle.network.specs.Worlds.{World, member_bank}
use Rattle.network.specs.Events.{Event, MayHappen, happens, on_open, world_after}
use Rattle.network.specs.Premises.{IsPremised, MayHappenInTurn, WasSent}
use Rattle.example_tests.specs.RecordExamples.{whole}
use Rattle.example_tests.specs.Scripts.{served, taken, write_tag}
use Rattle.example_tests.proofs.EventRunLemmas.{may_append}

-- what a phase asks at a position, and which members answer what
pub record Round : Type 0 where
  pub position : ℕ
  pub asked : ℕ → Request
  pub answers : List (ℕ × Answer)

-- two members of position 0 answer
abbrev pub by_two : (ℕ → Request) → (first second : ℕ) → (said_first said_second : Answer) → Round
by_two asked first second said_first said_second =
    record { position = 0; asked = asked; answers = (first, said_first) ∷ (second, said_second) ∷ [] }

-- the only member of a position answers
abbrev pub by_one : (ℕ → Request) → (position : ℕ) → Answer → Round
by_one asked position said = record { position = position; asked = asked; answers = (0, said) ∷ [] }

-- requests that are the same for all members
abbrev pub next : ℕ → Request
next member = request.Next

abbrev pub query : ℕ → Request
query member = request.Query

abbrev pub finalize : ℕ → Request
finalize member = request.Finalize write_tag

-- the members serve the requests
abbrev pub served_all : (call phase position : ℕ) → (ℕ → Request) → List (ℕ × Answer) → List Event
served_all call phase position asked [] = []
served_all call phase position asked (member ∷ members) =
    served call phase position asked member.0 ∷ served_all call phase position asked members

-- the call takes their answers
abbrev pub taken_all : (call phase position : ℕ) → (ℕ → Request) → List (ℕ × Answer) → List Event
taken_all call phase position asked [] = []
taken_all call phase position asked (member ∷ members) =
    taken call phase position asked member.0 member.1 ∷ taken_all call phase position asked members

-- the events of a phase that has begun
abbrev pub phase_events : (call phase : ℕ) → Round → List Event
phase_events call phase round =
    served_all call phase round.position round.asked round.answers ++ taken_all call phase round.position round.asked round.answers

-- the events of phases, from this number on, with those by which the call begins them
abbrev pub rounds : (call phase : ℕ) → List Round → List Event
rounds call phase [] = []
rounds call phase (round ∷ more) = Event.Advance call ∷ (phase_events call phase round ++ rounds call (suc phase) more)

-- Messages that were sent

-- the request of a phase to a member
abbrev pub request_to : (call phase position : ℕ) → (ℕ → Request) → (member : ℕ) → Message
request_to call phase position asked member = record {
  call = call;
  phase = phase;
  position = position;
  member = member;
  body = body.Request (asked member);
}

-- the member's reply with this answer
abbrev reply_of : (call phase position : ℕ) → (ℕ → Request) → (member : ℕ) → Answer → Message
reply_of call phase position asked member said = record {
  call = call;
  phase = phase;
  position = position;
  member = member;
  body = body.Reply (kind_of (asked member)) (record { step = 0; answer = said });
}

still_there : (sent more : List Message) (place : ℕ) (message : Message) → slice_get sent place ≡ Some message →
    slice_get (sent ++ more) place ≡ Some message
still_there [] more place message there = absurd (cc)
still_there (other ∷ sent) more zero message there = there
still_there (other ∷ sent) more (suc place) message there = still_there sent more place message there

at_the_end : (sent : List Message) (message : Message) → slice_get (sent ++ message ∷ []) (length sent) ≡ Some message
at_the_end [] message = refl
at_the_end (other ∷ sent) message = at_the_end sent message

-- what was sent stays sent while a reply is taken
sent_at_take : (world : World) (other message : Message) → WasSent world message →
    WasSent (happens whole world (Event.Take other)) message
sent_at_take world other message sent = go (open_call world.calls other.call)
  where
    counted : World
    counted = record world { now = suc world.now }

    go : (found : Option NodeCall) →
        WasSent (on_open counted found (λ call. record counted { calls = with_open (taking_open other call) world.calls })) message
    go None = sent
    go (Some call) = sent

-- One phase

module _ (call phase position : ℕ) (asked : ℕ → Request) where
  -- the requests to these members were sent, and their banks give these answers, one after another
  abbrev pub AreAnswered : World → List (ℕ × Answer) → Type 0
  AreAnswered world [] = Unit {0}
  AreAnswered world (member ∷ members) =
      WasSent world (request_to call phase position asked member.0)
      × (answer_to (member_bank world position member.0) (asked member.0) ≡ member.1)
      × AreAnswered (happens whole world (served call phase position asked member.0)) members

  -- the replies of these members were sent
  abbrev Replied : World → List (ℕ × Answer) → Type 0
  Replied world [] = Unit {0}
  Replied world (member ∷ members) =
      WasSent world (reply_of call phase position asked member.0 member.1) × Replied world members

  -- what was sent stays sent while the requests are served
  sent_while_served : (world : World) (members : List (ℕ × Answer)) (message : Message) → WasSent world message →
      WasSent (world_after whole (served_all call phase position asked members) world) message
  sent_while_served world [] message sent = sent
  sent_while_served world (member ∷ members) message sent =
      sent_while_served (happens whole world (served call phase position asked member.0)) members message
      (sent.0, still_there world.sent _ sent.0 message sent.1)

  replied : (world : World) (members : List (ℕ × Answer)) → AreAnswered world members →
      Replied (world_after whole (served_all call phase position asked members) world) members
  replied world [] facts = tt
  replied world (member ∷ members) facts =
      let after = happens whole world (served call phase position asked member.0) in
      let sent : WasSent after (reply_of call phase position asked member.0 member.1) =
      (length world.sent, at_the_end world.sent _ ∙ ap (λ said. Some (reply_of call phase position asked member.0 said)) facts.1) in
      (sent_while_served after members _ sent, replied after members facts.2)

  serve_then : (world : World) (members : List (ℕ × Answer)) (rest : List Event) → AreAnswered world members →
      MayHappenInTurn whole rest (world_after whole (served_all call phase position asked members) world) →
      MayHappenInTurn whole (served_all call phase position asked members ++ rest) world
  serve_then world [] rest facts later = later
  serve_then world (member ∷ members) rest facts later = (
    (_, refl),
    record { network = facts.0; log = tt; ids = tt },
    serve_then (happens whole world (served call phase position asked member.0)) members rest facts.2 later,
  )

  replied_at_take : (world : World) (message : Message) (members : List (ℕ × Answer)) → Replied world members →
      Replied (happens whole world (Event.Take message)) members
  replied_at_take world message [] facts = tt
  replied_at_take world message (member ∷ members) facts =
      (sent_at_take world message _ facts.0, replied_at_take world message members facts.1)

  takes : (world : World) (members : List (ℕ × Answer)) → Replied world members →
      MayHappenInTurn whole (taken_all call phase position asked members) world
  takes world [] facts = tt
  takes world (member ∷ members) facts = (
    (_, _, refl),
    record { network = facts.0; log = tt; ids = tt },
    takes (happens whole world (taken call phase position asked member.0 member.1)) members
        (replied_at_take world (reply_of call phase position asked member.0 member.1) members facts.1),
  )

-- a phase that has begun
pub phase_runs : (world : World) (call phase : ℕ) (round : Round) →
    AreAnswered call phase round.position round.asked world round.answers → MayHappenInTurn whole (phase_events call phase round) world
phase_runs world call phase round facts =
    serve_then call phase round.position round.asked world round.answers
    (taken_all call phase round.position round.asked round.answers) facts
    (takes call phase round.position round.asked
    (world_after whole (served_all call phase round.position round.asked round.answers) world) round.answers
    (replied call phase round.position round.asked world round.answers facts))

-- Calls

-- the call may begin each of these phases, and their members answer, one phase after another
abbrev pub Proceed : (call phase : ℕ) → List Round → World → Type 0
Proceed call phase [] world = Unit {0}
Proceed call phase (round ∷ more) world =
    MayHappen whole world (Event.Advance call)
    × AreAnswered call phase round.position round.asked (happens whole world (Event.Advance call)) round.answers
    × Proceed call (suc phase) more (world_after whole (Event.Advance call ∷ phase_events call phase round) world)

-- phases, each of which the call begins
pub rounds_run : (call phase : ℕ) (script : List Round) (world : World) → Proceed call phase script world →
    MayHappenInTurn whole (rounds call phase script) world
rounds_run call phase [] world facts = tt
rounds_run call phase (round ∷ more) world facts =
    let begun = happens whole world (Event.Advance call) in (
      facts.0,
      record { network = tt; log = tt; ids = tt },
      may_append (phase_events call phase round) (rounds call (suc phase) more) begun (phase_runs begun call phase round facts.1)
          (rounds_run call (suc phase) more (world_after whole (phase_events call phase round) begun) facts.2),
    )

-- a call from its first event on
pub call_runs : (begin : Event) (call : ℕ) (first : Round) (script : List Round) (world : World) → MayHappen whole world begin →
    IsPremised world begin → AreAnswered call 1 first.position first.asked (happens whole world begin) first.answers →
    Proceed call 2 script (world_after whole (begin ∷ phase_events call 1 first) world) →
    MayHappenInTurn whole (begin ∷ (phase_events call 1 first ++ rounds call 2 script)) world
call_runs begin call first script world may premised answered proceeds =
    let begun = happens whole world begin in (
      may,
      premised,
      may_append (phase_events call 1 first) (rounds call 2 script) begun (phase_runs begun call 1 first answered)
          (rounds_run call 2 script (world_after whole (phase_events call 1 first) begun) proceeds),
    )

-- the last phases of a call, and its answer
pub call_ends : (call phase : ℕ) (script : List Round) (world : World) → Proceed call phase script world →
    MayHappen whole (world_after whole (rounds call phase script) world) (Event.Answer call) →
    MayHappenInTurn whole (rounds call phase script ++ Event.Answer call ∷ []) world
call_ends call phase script world proceeds may =
    may_append (rounds call phase script) (Event.Answer call ∷ []) world (rounds_run call phase script world proceeds)
    (may, record { network = tt; log = tt; ids = tt }, tt)
