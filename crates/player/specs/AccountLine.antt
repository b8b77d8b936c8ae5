-- The contracts that docs/trusted.md lists do not depend on this file; other contracts and proofs do.
-- The line of the accounts.
use Rattle.std.specs.Prelude.{ℕ, List, [], ◌∷◌, ◌++◌, length, codes}
use Rattle.std.specs.Fmt.{decimal}
use Rattle.std.specs.List.{flat_map, range_with_len}
use Rattle.printing.specs.Words.{in_words}
use Rattle.cluster.specs.Cluster.{Cluster}
use Rattle.cluster.specs.Accounts as accounts

-- a space, the number of a server, a colon, and how many bytes the server stores
abbrev pub server_text : Cluster → (server : ℕ) → List ℕ
server_text cluster server =
    codes " " ++ decimal server ++ (codes ":" ++ decimal (accounts.server_bytes cluster server))

-- the line: the bytes that all servers store, the bytes that wait in messages, and what each server stores
abbrev pub account_text : Cluster → List ℕ
account_text cluster =
    in_words (
    codes "stored" ∷ decimal (accounts.stored_all cluster)
    ∷ codes "mailed" ∷ decimal (accounts.waiting_bytes cluster) ∷ [])
    ++ flat_map (server_text cluster) (range_with_len 0 (length cluster.servers))
