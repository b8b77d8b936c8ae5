use Rattle.std.proofs.Common.{◌≡◌, ◌≤◌, take}
use Rattle.std.specs.List.{count_by}
use Rattle.node.specs.Moves.{hears}
use Rattle.node.proofs.node.moves.count_heard.Given as goal

-- the members so far are counted
abbrev pub invariant-loop-member : goal.invariant-loop-member
invariant-loop-member l = (l.count ≡ count_by (hears l.number l.heard) (take l.member l.layout.members)) × (l.count ≤ l.member)
