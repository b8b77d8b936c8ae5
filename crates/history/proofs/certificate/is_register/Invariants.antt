use Rattle.std.proofs.Common.{◌↔◌, [], drop}
use Rattle.atomicity.specs.Atomic.{IsRegister}
use Rattle.history.specs.Check.{entries_listed}
use Rattle.history.proofs.certificate.is_register.Given as goal

abbrev pub invariant-loop-call : goal.invariant-loop-call
invariant-loop-call l =
    IsRegister [] (entries_listed l.entries l.order) ↔ IsRegister l.current (entries_listed l.entries (drop l.call-index l.order))
