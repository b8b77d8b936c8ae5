use Rattle.std.proofs.Common.{◌≡◌, take}
use Rattle.std.specs.Prelude.{sum_by}
use Rattle.mail.specs.Message.{message_bytes}
use Rattle.std.specs.Io.Iter.{u64_saturate}
use Rattle.soak_parts.proofs.audit.mailed_anew.Given as goal

abbrev pub invariant-loop-place : goal.invariant-loop-place
invariant-loop-place l = l.total ≡ u64_saturate (sum_by message_bytes (take l.place l.register.object.mail))
