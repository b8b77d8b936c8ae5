-- The contracts that docs/trusted.md lists do not depend on this file; other contracts and proofs do.
-- A premise left out: node 3 has another cluster file than all other nodes. All other premises stay.
use Rattle.std.specs.Prelude.{ℕ, ◌==◌, if◌then◌else◌, List, [], ◌∷◌, ◌++◌, None, Some}
use Rattle.tag.specs.Tag.{opening_tag}
use Rattle.bank.specs.declared.reply.Answer.TheVariants.{Pointer, Done, Greatest}
use Rattle.bank.specs.declared.request.Request.TheVariants as request
use Rattle.bank.specs.declared.status.Status.TheVariants.{Unset}
use Rattle.record.specs.declared.call.Entry.{Entry}
use Rattle.record.specs.declared.call.Operation.TheVariants as operation
use Rattle.network.specs.Worlds.{ClusterFile, World, opened_world}
use Rattle.network.specs.Events.{Event}
use Rattle.example_tests.specs.Scripts.{alone, letter, three_file, to_keep, write_tag}
use Rattle.example_tests.specs.Forgetting.{empty_read}

-- a cluster file by which the object begins at node 0 alone
abbrev pub lone_file : ClusterFile
lone_file = record { delta = None; mover = 0; first = record { k = 1; members = 0 ∷ [] } }

-- node 3 has this file, and all other nodes have that of three nodes
abbrev pub two_files : (node : ℕ) → ClusterFile
two_files node = if node == 3 then lone_file else three_file

-- the opened world of these nodes
abbrev pub apart : World
apart = opened_world two_files

-- node 3 begins to write: node 0 knows of no later position and of no tag, and keeps the value
abbrev pub lone_begun : List Event
lone_begun =
    Event.BeginWrite 3 7 letter ∷ (alone 7 1 0 (λ member. request.Next) (Pointer Unset)
    ++ (Event.Advance 7 ∷ (alone 7 2 0 (λ member. request.Query) (Greatest opening_tag)
    ++ (Event.Advance 7 ∷ alone 7 3 0 to_keep Done))))

-- node 0 finalizes the write's tag and still knows of no later position, and the write is answered
abbrev pub lone_ended : List Event
lone_ended =
    Event.Advance 7 ∷ (alone 7 4 0 (λ member. request.Finalize write_tag) Done
    ++ (Event.Advance 7 ∷ (alone 7 5 0 (λ member. request.Next) (Pointer Unset) ++ (Event.Answer 7 ∷ []))))

-- node 3 writes to node 0 alone, and then node 2 reads from the nodes 1 and 2, which the write did not reach
abbrev pub missed : List Event
missed = lone_begun ++ (lone_ended ++ empty_read)

-- the entries of both calls: the read was called after the write was answered, and returned the empty value
abbrev pub missed_entries : List Entry
missed_entries =
    record { call = 7; kind = operation.Write; called = 1; answered = Some 16; value = Some letter }
    ∷ record { call = 3; kind = operation.Read; called = 17; answered = Some 38; value = Some [] } ∷ []
