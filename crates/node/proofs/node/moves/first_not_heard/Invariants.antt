use Rattle.std.proofs.Common.{◌≡◌, not, drop}
use Rattle.std.specs.List.{find}
use Rattle.node.specs.Moves.{first_not_heard, hears}
use Rattle.node.proofs.node.moves.first_not_heard.Given as goal

-- the members so far are heard
abbrev pub invariant-loop-member : goal.invariant-loop-member
invariant-loop-member l = first_not_heard l.number l.heard l.layout
    ≡ find (λ member. not (hears l.number l.heard member)) (drop l.member l.layout.members)
