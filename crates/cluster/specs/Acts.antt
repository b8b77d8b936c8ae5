-- The contracts that docs/trusted.md lists do not depend on this file; other contracts and proofs do.
-- What an act requires of a cluster, beyond what its object's step requires.
use Rattle.std.specs.Prelude.{ℕ}
use Rattle.register.specs.declared.act.Act.{Act}
use Rattle.register.specs.declared.act.Act.TheVariants as act
use Rattle.cluster.specs.Kept.{HasMembersBelow}

-- this many servers allow the act: a move if each member of its layout is a server, and any other act but a serve
abbrev pub ServersAllow : (servers : ℕ) → Act → Type 0
ServersAllow servers (act.CallMove layout) = HasMembersBelow servers layout
ServersAllow servers (act.Serve place) = ⊥
ServersAllow servers _ = Unit {0}

-- how many calls an act begins
abbrev pub begun_by : Act → ℕ
begun_by act.CallRead = 1
begun_by (act.CallWrite value) = 1
begun_by (act.CallMove layout) = 1
begun_by _ = 0
