-- The contracts that docs/trusted.md lists do not depend on this file; other contracts and proofs do.
-- The worked examples with three nodes, event by event, and the entries that they leave.
use Rattle.std.specs.Prelude.{ℕ, List, [], ◌∷◌, ◌++◌, None, Some}
use Rattle.tag.specs.Tag.{opening_tag}
use Rattle.bank.specs.declared.reply.Answer.TheVariants.{Pointer, Done, Greatest}
use Rattle.bank.specs.declared.reply.Answer.TheVariants as answer
use Rattle.bank.specs.declared.request.Request.TheVariants as request
use Rattle.bank.specs.declared.status.Status.TheVariants.{Unset}
use Rattle.record.specs.declared.call.Entry.{Entry}
use Rattle.record.specs.declared.call.Operation.TheVariants as operation
use Rattle.network.specs.Events.{Event, world_after}
use Rattle.example_tests.specs.RecordExamples.{whole}
use Rattle.example_tests.specs.Scripts.{both, served, taken, restarted, start, letter, letter_piece, to_keep}
use Rattle.example_tests.specs.Scripts.{write_tag}

-- Parts of calls

-- a node begins to write the value: the nodes 0 and 1 know of no later position, and of no tag but the opening tag
abbrev pub write_asked : (node : ℕ) → List Event
write_asked node =
    Event.BeginWrite node 7 letter ∷ (both 7 1 (λ member. request.Next) 0 1 (Pointer Unset) (Pointer Unset)
    ++ (Event.Advance 7 ∷ both 7 2 (λ member. request.Query) 0 1 (Greatest opening_tag) (Greatest opening_tag)))

-- the nodes 0 and 1 keep their pieces
abbrev pub write_kept : List Event
write_kept = Event.Advance 7 ∷ both 7 3 to_keep 0 1 Done Done

-- the nodes 0 and 1 finalize the write's tag
abbrev pub write_finalized : List Event
write_finalized = Event.Advance 7 ∷ both 7 4 (λ member. request.Finalize write_tag) 0 1 Done Done

-- the nodes 0 and 1 still know of no later position, and the write is answered
abbrev pub write_ended : List Event
write_ended =
    Event.Advance 7
    ∷ (both 7 5 (λ member. request.Next) 0 1 (Pointer Unset) (Pointer Unset) ++ (Event.Answer 7 ∷ []))

-- node 2 begins to read: this other node knows the write's tag, and node 2 itself does not
abbrev pub read_asked : (other : ℕ) → List Event
read_asked other =
    Event.BeginRead 2 3 ∷ (both 3 1 (λ member. request.Next) other 2 (Pointer Unset) (Pointer Unset)
    ++ (Event.Advance 3 ∷ both 3 2 (λ member. request.Query) other 2 (Greatest write_tag) (Greatest opening_tag)))

-- the other node has a piece of the value and node 2 has none; the read settles the value
abbrev pub read_settled : (other : ℕ) → List Event
read_settled other =
    Event.Advance 3 ∷ (both 3 3 (λ member. request.Fetch write_tag) other 2
    (answer.Piece (Some (letter_piece other))) (answer.Piece None) ++ (Event.Settle 3 letter ∷ []))

-- both nodes know of no later position, and the read is answered
abbrev pub read_ended : (other : ℕ) → List Event
read_ended other =
    Event.Advance 3
    ∷ (both 3 4 (λ member. request.Next) other 2 (Pointer Unset) (Pointer Unset) ++ (Event.Answer 3 ∷ []))

-- node 2 reads from this other node and itself
abbrev pub read : (other : ℕ) → List Event
read other = read_asked other ++ (read_settled other ++ read_ended other)

-- Runs

-- node 0 writes to the nodes 0 and 1, and then node 2 reads from the nodes 1 and 2
abbrev pub write_and_read : List Event
write_and_read = write_asked 0 ++ (write_kept ++ (write_finalized ++ (write_ended ++ read 1)))

-- the entries of both calls: the write has the events 1 to 26, and the read has 27 to 48
abbrev pub write_and_read_entries : List Entry
write_and_read_entries =
    record { call = 7; kind = operation.Write; called = 1; answered = Some 26; value = Some letter }
    ∷ record { call = 3; kind = operation.Read; called = 27; answered = Some 48; value = Some letter } ∷ []

-- node 2 writes until node 0 has served the request to finalize the tag; no call takes the reply
abbrev pub until_crash : List Event
until_crash =
    write_asked 2 ++ (write_kept ++ (Event.Advance 7 ∷ served 7 4 0 (λ member. request.Finalize write_tag) 0 ∷ []))

-- after node 0 is back, it serves the request once more, and the write goes on to its answer
abbrev pub after_crash : List Event
after_crash = both 7 4 (λ member. request.Finalize write_tag) 0 1 Done Done ++ write_ended

-- node 0 stops between serving and replying, and starts again; then node 2 reads from the nodes 0 and 2
abbrev pub crash : List Event
crash =
    until_crash
    ++ (restarted 0 (world_after whole until_crash start) ∷ (after_crash ++ read 0))

-- the entries of both calls: the write has the events 1 to 28, and the read has 29 to 50
abbrev pub crash_entries : List Entry
crash_entries =
    record { call = 7; kind = operation.Write; called = 1; answered = Some 28; value = Some letter }
    ∷ record { call = 3; kind = operation.Read; called = 29; answered = Some 50; value = Some letter } ∷ []

-- node 0 writes until it took the reply of its own bank, which kept its piece
abbrev pub until_taken : List Event
until_taken =
    write_asked 0 ++ (Event.Advance 7 ∷ served 7 3 0 to_keep 0 ∷ taken 7 3 0 to_keep 0 Done ∷ [])

-- the write takes the same reply once more
abbrev pub taken_again : List Event
taken_again = until_taken ++ (taken 7 3 0 to_keep 0 Done ∷ [])

-- the write takes the same reply once more, then that of node 1, and goes on to its answer
abbrev pub taken_twice : List Event
taken_twice =
    until_taken ++ (taken 7 3 0 to_keep 0 Done ∷ served 7 3 0 to_keep 1 ∷ taken 7 3 0 to_keep 1 Done
    ∷ (write_finalized ++ write_ended))

-- the entry of the write, which has the events 1 to 27
abbrev pub taken_twice_entries : List Entry
taken_twice_entries =
    record { call = 7; kind = operation.Write; called = 1; answered = Some 27; value = Some letter } ∷ []
