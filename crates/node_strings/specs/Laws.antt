-- The contracts that docs/trusted.md lists do not depend on this file; other contracts and proofs do.
-- What is written is read back.
use Rattle.std.specs.Prelude.{◌≡◌, ◌<◌, ◌^◌, ℕ, Some}
use Rattle.node_strings.specs.declared.record.Record.{Record}
use Rattle.node_strings.specs.Arrival.{client_address, node_address}
use Rattle.node_strings.specs.Record.{HasPartsInRange, record_strings, record_at}

-- the strings of a record are read as that record
abbrev pub WrittenRecordIsRead : Type 0
WrittenRecordIsRead = (it : Record) → HasPartsInRange it → record_at (record_strings it) ≡ Some it

-- two records with the same strings are the same
abbrev pub RecordsDiffer : Type 0
RecordsDiffer = (it other : Record) → HasPartsInRange it → HasPartsInRange other
    → record_strings it ≡ record_strings other → it ≡ other

-- two clients, or two nodes, with the same address are the same, and no node has the address of a client
abbrev pub AddressesDiffer : Type 0
AddressesDiffer = (one other : ℕ) → one < 2 ^ 64 → other < 2 ^ 64
    → (client_address one ≡ client_address other → one ≡ other)
    × (node_address one ≡ node_address other → one ≡ other)
    × (client_address one ≡ node_address other → ⊥)
