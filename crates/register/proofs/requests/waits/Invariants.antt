use Rattle.std.proofs.Common.{◌≡◌, drop}
use Rattle.record.specs.Sending.{waits}
use Rattle.register.proofs.requests.waits.Given as goal

-- no message before this place is of the phase and the member
abbrev pub invariant-loop-place : goal.invariant-loop-place
invariant-loop-place l = waits l.mail l.call l.phase l.member ≡ waits (drop l.place l.mail) l.call l.phase l.member
