-- The contracts that docs/trusted.md lists do not depend on this file; other contracts and proofs do.
-- A premise left out: the network may invent messages. All other premises stay.
use Rattle.std.specs.Prelude.{ℕ, List, [], ◌∷◌, ◌++◌, Some}
use Rattle.tag.specs.Tag.{opening_tag}
use Rattle.bank.specs.Bank.{empty_piece}
use Rattle.bank.specs.declared.reply.Answer.{Answer}
use Rattle.bank.specs.declared.reply.Answer.TheVariants.{Pointer, Greatest}
use Rattle.bank.specs.declared.reply.Answer.TheVariants as answer
use Rattle.bank.specs.declared.request.Request.{Request}
use Rattle.bank.specs.declared.request.Request.TheVariants as request
use Rattle.bank.specs.declared.status.Status.TheVariants.{Unset}
use Rattle.record.specs.declared.call.Entry.{Entry}
use Rattle.record.specs.declared.call.Operation.TheVariants as operation
use Rattle.record.specs.Fragments.{Code}
use Rattle.network.specs.Worlds.{World}
use Rattle.network.specs.Events.{Event, MayHappen, happens}
use Rattle.network.specs.Premises.{IsKeptByLog, HasNewId}
use Rattle.example_tests.specs.Scripts.{letter, taken}
use Rattle.example_tests.specs.Forgetting.{write_to_two}

-- the event meets the premises on events, but for that on the network
pub record IsPremisedInventing (world : World) (event : Event) : Type 0 where
  pub log : IsKeptByLog world event
  pub ids : HasNewId world event

-- these events may happen one after another, if the network may invent messages
abbrev pub MayRunInventing : Code → List Event → World → Type 0
MayRunInventing fragment [] world = Unit {0}
MayRunInventing fragment (event ∷ events) world =
    MayHappen fragment world event × IsPremisedInventing world event
    × MayRunInventing fragment events (happens fragment world event)

-- the read, whose id is 3, takes answers in the name of the members 0 and 1, which never served its requests
abbrev pub invented : (phase : ℕ) → (ℕ → Request) → (said_first said_second : Answer) → List Event
invented phase asked said_first said_second =
    taken 3 phase 0 asked 0 said_first ∷ taken 3 phase 0 asked 1 said_second ∷ []

-- node 2 begins to read, and takes that no position follows, and that there is no tag but the opening tag
abbrev pub invented_asked : List Event
invented_asked =
    Event.BeginRead 2 3 ∷ (invented 1 (λ member. request.Next) (Pointer Unset) (Pointer Unset)
    ++ (Event.Advance 3 ∷ invented 2 (λ member. request.Query) (Greatest opening_tag) (Greatest opening_tag)))

-- the read takes pieces of the empty value, which it settles
abbrev pub invented_settled : List Event
invented_settled =
    Event.Advance 3 ∷ (invented 3 (λ member. request.Fetch opening_tag)
    (answer.Piece (Some (empty_piece 0))) (answer.Piece (Some (empty_piece 1))) ++ (Event.Settle 3 [] ∷ []))

-- the read takes that still no position follows, and is answered
abbrev pub invented_ended : List Event
invented_ended =
    Event.Advance 3
    ∷ (invented 4 (λ member. request.Next) (Pointer Unset) (Pointer Unset) ++ (Event.Answer 3 ∷ []))

-- a write to the nodes 0 and 1, and a read all of whose replies are invented
abbrev pub inventing : List Event
inventing = write_to_two ++ (invented_asked ++ (invented_settled ++ invented_ended))

-- the entries of both calls: the read was called after the write was answered, and returned the empty value
abbrev pub inventing_entries : List Entry
inventing_entries =
    record { call = 7; kind = operation.Write; called = 1; answered = Some 26; value = Some letter }
    ∷ record { call = 3; kind = operation.Read; called = 27; answered = Some 40; value = Some [] } ∷ []
