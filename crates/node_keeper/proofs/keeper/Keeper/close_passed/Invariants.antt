use Rattle.std.proofs.Common.{ℕ, []}
use Rattle.node_keeper.specs.Acts.{Acts}
use Rattle.node_keeper.specs.Closing.{PassesBanks}
use Rattle.node_keeper.proofs.keeper.Keeper.close_passed.Given as goal

abbrev pub invariant-loop-position : goal.invariant-loop-position
invariant-loop-position l =
    PassesBanks l.name l.yielded l.fn.self l.fn.work l.self l.work
    × ((asker : ℕ) → Acts asker [] l.fn.self l.fn.work l.self l.work)
