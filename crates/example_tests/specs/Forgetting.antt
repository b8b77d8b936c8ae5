-- The contracts that docs/trusted.md lists do not depend on this file; other contracts and proofs do.
-- A wrong rule: a node that stops and starts again has forgotten what its banks kept. All other premises stay.
use Rattle.std.specs.Prelude.{◌≡◌, ℕ, suc, ◌==◌, if◌then◌else◌, List, [], ◌∷◌, ◌++◌, Option, Some}
use Rattle.tag.specs.Tag.{opening_tag}
use Rattle.layout.specs.Layout.{Layout}
use Rattle.bank.specs.Bank.{Bank, empty_piece, opened_bank}
use Rattle.bank.specs.declared.reply.Answer.TheVariants.{Pointer, Greatest}
use Rattle.bank.specs.declared.reply.Answer.TheVariants as answer
use Rattle.bank.specs.declared.request.Request.TheVariants as request
use Rattle.bank.specs.declared.status.Status.TheVariants.{Unset}
use Rattle.record.specs.declared.call.Entry.{Entry}
use Rattle.record.specs.declared.call.Operation.TheVariants as operation
use Rattle.record.specs.Fragments.{Code}
use Rattle.network.specs.Worlds.{World, after_restart, known_layouts}
use Rattle.network.specs.Events.{Event, MayHappen, happens, world_after}
use Rattle.network.specs.Premises.{IsAsSent, HasNewId}
use Rattle.example_tests.specs.RecordExamples.{whole}
use Rattle.example_tests.specs.Scripts.{both, start, letter}
use Rattle.example_tests.specs.NodeExamples.{read_ended, write_asked, write_kept, write_finalized, write_ended}

-- The rule

-- the banks of a position's members, from `member` on, if this node has opened its own anew
abbrev pub forgotten_by : (node : ℕ) → (delta : Option ℕ) → (servers : List ℕ) → (member : ℕ) → List Bank → List Bank
forgotten_by node delta [] member banks = banks
forgotten_by node delta (server ∷ servers) member [] = []
forgotten_by node delta (server ∷ servers) member (bank ∷ banks) =
    (if server == node then opened_bank member delta 0 else bank)
    ∷ forgotten_by node delta servers (suc member) banks

-- the banks of all positions, if this node has opened its own anew
abbrev pub forgotten_banks : (node : ℕ) → (delta : Option ℕ) → List Layout → List (List Bank) → List (List Bank)
forgotten_banks node delta [] banks = banks
forgotten_banks node delta (layout ∷ layouts) [] = []
forgotten_banks node delta (layout ∷ layouts) (banks ∷ later) =
    forgotten_by node delta layout.members 0 banks ∷ forgotten_banks node delta layouts later

-- the wrong rule: a node that starts again has opened its banks anew; its open moves are as they were
abbrev pub IsForgotten : World → Event → Type 0
IsForgotten world (Event.Restart node banks calls) =
    (banks ≡ forgotten_banks node (world.files node).delta (known_layouts world node) world.banks)
    × (calls ≡ after_restart node world.calls)
IsForgotten world _ = Unit {0}

-- the event meets the premises on events, but for the wrong rule in the place of the log
pub record IsPremisedForgetting (world : World) (event : Event) : Type 0 where
  pub network : IsAsSent world event
  pub forgets : IsForgotten world event
  pub ids : HasNewId world event

-- these events may happen one after another, if nodes forget
abbrev pub MayRunForgetting : Code → List Event → World → Type 0
MayRunForgetting fragment [] world = Unit {0}
MayRunForgetting fragment (event ∷ events) world =
    MayHappen fragment world event × IsPremisedForgetting world event
    × MayRunForgetting fragment events (happens fragment world event)

-- The run

-- node 0 writes to the nodes 0 and 1, and the write is answered
abbrev pub write_to_two : List Event
write_to_two = write_asked 0 ++ (write_kept ++ (write_finalized ++ write_ended))

-- a node stops and starts again, and has forgotten what its banks in this world kept
abbrev pub restarted_empty : (node : ℕ) → World → Event
restarted_empty node world =
    Event.Restart node (forgotten_banks node (world.files node).delta (known_layouts world node) world.banks)
    (after_restart node world.calls)

-- node 2 begins to read, and the nodes 1 and 2 know of no tag but the opening tag
abbrev pub empty_asked : List Event
empty_asked =
    Event.BeginRead 2 3 ∷ (both 3 1 (λ member. request.Next) 1 2 (Pointer Unset) (Pointer Unset)
    ++ (Event.Advance 3 ∷ both 3 2 (λ member. request.Query) 1 2 (Greatest opening_tag) (Greatest opening_tag)))

-- both nodes have a piece of the empty value, which the read settles
abbrev pub empty_settled : List Event
empty_settled =
    Event.Advance 3 ∷ (both 3 3 (λ member. request.Fetch opening_tag) 1 2
    (answer.Piece (Some (empty_piece 1))) (answer.Piece (Some (empty_piece 2))) ++ (Event.Settle 3 [] ∷ []))

-- node 2 reads from the nodes 1 and 2, and returns the empty value
abbrev pub empty_read : List Event
empty_read = empty_asked ++ (empty_settled ++ read_ended 1)

-- a write to the nodes 0 and 1, of which node 1 then forgets, and a read from the nodes 1 and 2
abbrev pub forgetful : List Event
forgetful = write_to_two ++ (restarted_empty 1 (world_after whole write_to_two start) ∷ empty_read)

-- the entries of both calls: the read was called after the write was answered, and returned the empty value
abbrev pub forgetful_entries : List Entry
forgetful_entries =
    record { call = 7; kind = operation.Write; called = 1; answered = Some 26; value = Some letter }
    ∷ record { call = 3; kind = operation.Read; called = 28; answered = Some 49; value = Some [] } ∷ []
