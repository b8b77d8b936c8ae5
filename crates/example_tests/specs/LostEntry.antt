-- The contracts that docs/trusted.md lists do not depend on this file; other contracts and proofs do.
-- A premise left out: the log of a node forgets its last synced entry. All other premises stay.
use Rattle.std.specs.Prelude.{◌≡◌, [], ◌∷◌, None, get_or, slice_set, take}
use Rattle.bank.specs.Bank.{Bank, opened_bank}
use Rattle.bank.specs.Serve.{served_bank}
use Rattle.deeds.specs.Kept.{FileOfNames}
use Rattle.node.specs.Anew.{CarriesOutAll}
use Rattle.node.specs.declared.node.Node.{Node}
use Rattle.processes.specs.Events.{IsNewNode}
use Rattle.network.specs.Events.{Event, happens, world_after}
use Rattle.network.specs.Worlds.{World, after_restart}
use Rattle.example_tests.specs.RecordExamples.{whole}
use Rattle.example_tests.specs.Scripts.{start, three_nodes, to_keep}
use Rattle.example_tests.specs.Forgetting.{write_to_two}
use Rattle.example_tests.specs.StoppedSync.{entries_of, restarted_as}

-- the world in which a write to the nodes 0 and 1 has been answered
abbrev pub written : World
written = world_after whole write_to_two start

-- the bank of node 1 before it finalized the tag of the write: it has kept its piece
abbrev pub unfinalized_bank : Bank
unfinalized_bank = served_bank (opened_bank 1 None 0) (to_keep 1) 0

-- node 1 stops and starts again, and has this bank
abbrev pub restarted_unfinalized : Event
restarted_unfinalized =
    Event.Restart 1 (slice_set written.banks 0 (slice_set (get_or written.banks 0 []) 1 unfinalized_bank))
    (after_restart 1 written.calls)

-- the world after this
abbrev pub entry_lost : World
entry_lost = happens whole written restarted_unfinalized

-- This is what the log of node 1 gives back if it forgets its last synced entry, which records that the node finalized
-- the tag: each new node that carries out the other three entries makes this event of the restart.
abbrev pub RestLacksFinalize : Type 0
RestLacksFinalize = (names : FileOfNames) (new copy : Node) → names.delta ≡ None →
    names.first (97 ∷ []) ≡ three_nodes → IsNewNode names 1 new → CarriesOutAll new (take 3 (entries_of 1)) copy →
    restarted_as 1 copy written ≡ restarted_unfinalized
