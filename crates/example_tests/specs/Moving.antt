-- The contracts that docs/trusted.md lists do not depend on this file; other contracts and proofs do.
-- A worked example of a move while a write is under way: the object moves from node 0 to node 1.
use Rattle.std.specs.Prelude.{List, [], ◌∷◌, ◌++◌, None, Some}
use Rattle.tag.specs.Tag.{opening_tag}
use Rattle.layout.specs.Layout.{Layout}
use Rattle.bank.specs.Bank.{empty_piece}
use Rattle.bank.specs.declared.reply.Answer.TheVariants.{Pointer, Done, Greatest}
use Rattle.bank.specs.declared.reply.Answer.TheVariants as answer
use Rattle.bank.specs.declared.request.Request.TheVariants as request
use Rattle.bank.specs.declared.status.Status.TheVariants.{Unset, Pending, Final}
use Rattle.record.specs.declared.call.Entry.{Entry}
use Rattle.record.specs.declared.call.Operation.TheVariants as operation
use Rattle.network.specs.Worlds.{ClusterFile, World, opened_world}
use Rattle.network.specs.Events.{Event}
use Rattle.example_tests.specs.Scripts.{alone, letter, to_keep, write_tag}

-- a layout whose only member is node 0
abbrev pub first_node : Layout
first_node = record { k = 1; members = 0 ∷ [] }

-- a layout whose only member is node 1
abbrev pub second_node : Layout
second_node = record { k = 1; members = 1 ∷ [] }

-- a cluster file by which the object begins at node 0, and node 1 moves objects
abbrev pub first_file : ClusterFile
first_file = record { delta = None; mover = 1; first = first_node }

-- the opened world of nodes with this file
abbrev pub at_first : World
at_first = opened_world (λ node. first_file)

-- node 0 begins to write: it knows of no later position, and of no tag but the opening tag
abbrev pub write_beginning : List Event
write_beginning =
    Event.BeginWrite 0 7 letter ∷ (alone 7 1 0 (λ member. request.Next) (Pointer Unset)
    ++ (Event.Advance 7 ∷ alone 7 2 0 (λ member. request.Query) (Greatest opening_tag)))

-- node 1 begins to move the object to itself: node 0 learns that there is a next position, and answers with the opening
-- tag and its piece
abbrev pub move_beginning : List Event
move_beginning =
    Event.BeginMove 1 3 second_node ∷ (alone 3 1 0 (λ member. request.Spread Pending) Done
    ++ (Event.Advance 3 ∷ (alone 3 2 0 (λ member. request.Query) (Greatest opening_tag)
    ++ (Event.Advance 3 ∷ alone 3 3 0 (λ member. request.Fetch opening_tag) (answer.Piece (Some (empty_piece 0)))))))

-- the move puts the empty value at position 1, node 0 learns that it is there, and the move is answered
abbrev pub move_ending : List Event
move_ending =
    Event.Settle 3 [] ∷ Event.Advance 3
    ∷ (alone 3 4 1 (λ member. request.PreWrite opening_tag (empty_piece member)) Done
    ++ (Event.Advance 3 ∷ (alone 3 5 1 (λ member. request.Finalize opening_tag) Done
    ++ (Event.Advance 3 ∷ (alone 3 6 0 (λ member. request.Spread Final) Done ++ (Event.Answer 3 ∷ []))))))

-- the write puts its value at position 0, and then learns that the object has moved
abbrev pub write_at_first : List Event
write_at_first =
    Event.Advance 7 ∷ (alone 7 3 0 to_keep Done
    ++ (Event.Advance 7 ∷ (alone 7 4 0 (λ member. request.Finalize write_tag) Done
    ++ (Event.Advance 7 ∷ alone 7 5 0 (λ member. request.Next) (Pointer Final)))))

-- the write tells node 0 that the object has moved, and finds that no position follows position 1
abbrev pub write_moved : List Event
write_moved =
    Event.Advance 7 ∷ (alone 7 6 0 (λ member. request.Spread Final) Done
    ++ (Event.Advance 7 ∷ alone 7 7 1 (λ member. request.Next) (Pointer Unset)))

-- the write puts its value at position 1 too, which still no position follows, and is answered
abbrev pub write_at_second : List Event
write_at_second =
    Event.Advance 7 ∷ (alone 7 8 1 to_keep Done
    ++ (Event.Advance 7 ∷ (alone 7 9 1 (λ member. request.Finalize write_tag) Done
    ++ (Event.Advance 7 ∷ (alone 7 10 1 (λ member. request.Next) (Pointer Unset) ++ (Event.Answer 7 ∷ []))))))

-- a write, and a move from its first event to its last between the write's query and its first piece
abbrev pub move_while_writing : List Event
move_while_writing =
    write_beginning ++ (move_beginning ++ (move_ending ++ (write_at_first ++ (write_moved ++ write_at_second))))

-- the entries of both calls: the write has the events 1 to 51, and the move has 7 to 26
abbrev pub move_while_writing_entries : List Entry
move_while_writing_entries =
    record { call = 7; kind = operation.Write; called = 1; answered = Some 51; value = Some letter }
    ∷ record { call = 3; kind = operation.Move; called = 7; answered = Some 26; value = None } ∷ []
