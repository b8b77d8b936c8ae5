-- The frames that come to a node, and the addresses in front of frames.
use Rattle.std.specs.Prelude.{◌≡◌, ◌≢◌, ◌<◌, ◌^◌, ◌-◌, ◌&&◌, ℕ, List, [], ◌∷◌, ◌++◌, true, Option, Some, None}
use Rattle.std.specs.Prelude.{codes, if◌then◌else◌}
use Rattle.std.specs.Fmt.{decimal}
use Rattle.std.specs.Str.{bytes_eq}
use Rattle.node_strings.specs.declared.arrival.Arrival.{Arrival}
use Rattle.node_strings.specs.declared.arrival.Arrival.TheVariants as came
use Rattle.node_strings.specs.Heard.{are_node_numbers, is_empty}
use Rattle.node_strings.specs.Strings.{Strings}
use Rattle.node_strings.specs.Parts.{then_read, rest_behind, number_or_none}

-- the address of a client
abbrev pub client_address : ℕ → List ℕ
client_address client = codes "client " ++ decimal client

-- the address of a node
abbrev pub node_address : ℕ → List ℕ
node_address node = codes "node " ++ decimal node

-- the strings of the frame that says what has come
abbrev pub arrival_strings : Arrival → Strings
arrival_strings (came.Command client command) = client_address client ∷ command
arrival_strings (came.Left client) = client_address client ∷ []
arrival_strings (came.Message node frame) = node_address node ∷ frame
arrival_strings (came.Tick heard) = codes "tick" ∷ heard.numbers

-- the numbers of clients and nodes have their ranges, and a command has a string; at a tick, each string is the number
-- of a node
abbrev pub IsArrival : Arrival → Type 0
IsArrival (came.Command client command) = (client < 2 ^ 64) × (command ≢ [])
IsArrival (came.Left client) = client < 2 ^ 64
IsArrival (came.Message node frame) = node < 2 ^ 8
IsArrival (came.Tick heard) = are_node_numbers heard.numbers ≡ true

-- what a client of this number sent, or that its connection has ended
abbrev pub client_arrival : List ℕ → Strings → Option Arrival
client_arrival number rest = then_read (number_or_none (2 ^ 64 - 1) number)
    (λ client. if is_empty rest then Some (came.Left client) else Some (came.Command client rest))

-- an arrival which says that time has passed, and from which nodes the host has heard, if these strings are that
abbrev pub tick_arrival : List ℕ → Strings → Option Arrival
tick_arrival address rest =
    if bytes_eq address (codes "tick") && are_node_numbers rest then Some (came.Tick (record { numbers = rest }))
    else None

-- what comes from a client, if there is something after `client `, and otherwise what `other` says
abbrev pub if_behind : Option (List ℕ) → (List ℕ → Option Arrival) → Option Arrival → Option Arrival
if_behind (Some number) from other = from number
if_behind None from other = other

-- what comes from a node, or that time has passed
abbrev pub node_arrival : List ℕ → Strings → Option Arrival
node_arrival address rest = if_behind (rest_behind (codes "node ") address)
    (λ number. then_read (number_or_none 255 number) (λ node. Some (came.Message node rest)))
    (tick_arrival address rest)

-- what has come, by the address and the strings after it
unfoldable pub arrival_from : List ℕ → Strings → Option Arrival
arrival_from address rest = if_behind (rest_behind (codes "client ") address)
    (λ number. client_arrival number rest) (node_arrival address rest)

-- what has come
unfoldable pub arrival_at : Strings → Option Arrival
arrival_at [] = None
arrival_at (address ∷ rest) = arrival_from address rest
