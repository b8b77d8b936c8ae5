use Rattle.std.proofs.Common.{◌≡◌, ◌++◌, drop, map}
use Rattle.record.specs.Journals.{entry_of}
use Rattle.record.specs.Records.{Call}
use Rattle.register.specs.Tracked.{calls_of}
use Rattle.register.proofs.register.Register.entries.Given as goal

abbrev pub invariant-loop-call : goal.invariant-loop-call
invariant-loop-call l =
    map (λ (call : Call). entry_of call.id call) (calls_of l.call-items)
    ≡ l.entries.items ++ map (λ (call : Call). entry_of call.id call) (calls_of (drop l.call-index l.call-items))
