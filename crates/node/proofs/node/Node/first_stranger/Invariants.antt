use Rattle.std.proofs.Common.{◌≡◌, not, drop}
use Rattle.std.specs.List.{find}
use Rattle.node.specs.Moves.{first_stranger, is_node}
use Rattle.node.proofs.node.Node.first_stranger.Given as goal

-- the members so far are nodes of the cluster
abbrev pub invariant-loop-member : goal.invariant-loop-member
invariant-loop-member l = first_stranger l.self.keeper.file l.layout
    ≡ find (λ member. not (is_node l.self.keeper.file member)) (drop l.member l.layout.members)
