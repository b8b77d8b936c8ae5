use Rattle.std.proofs.Common.{◌≡◌, ◌+◌, drop}
use Rattle.record.specs.Accounts.{stored_bytes}
use Rattle.register.specs.Position.{layouts_of, banks_of}
use Rattle.register.proofs.register.Register.stored.Given as goal

abbrev pub invariant-loop-position : goal.invariant-loop-position
invariant-loop-position l =
    stored_bytes l.server (layouts_of l.position-items) (banks_of l.position-items)
    ≡ l.total + stored_bytes l.server (layouts_of (drop l.position-index l.position-items))
    (banks_of (drop l.position-index l.position-items))
