use Rattle.std.proofs.Common.{◌≡◌, ℕ, suc, ◌<◌, Some, IsSome, slice_get}
use Rattle.record.specs.declared.call.Entry.{Entry}
use Rattle.atomicity.specs.Atomic.{MayStand}
use Rattle.history.proofs.certificate.are_lawful.Given as goal

abbrev pub invariant-loop-place : goal.invariant-loop-place
invariant-loop-place l = (index : ℕ) (entry : Entry) → index < l.place → slice_get l.entries index ≡ Some entry →
    (entry.call ≡ suc index) × (MayStand entry → IsSome entry.value)
