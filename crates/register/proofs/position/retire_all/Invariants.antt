use Rattle.std.proofs.Common.{◌≡◌, take}
use Rattle.bank.specs.Collect.{retired_bank}
use Rattle.register.specs.Position.{banks_bytes}
use Rattle.register.proofs.EmptiedBankLemmas.{dropped_so_far}
use Rattle.register.proofs.position.retire_all.Given as goal

-- the banks before this member have dropped their pieces, and so many bytes are freed
abbrev pub invariant-loop-member : goal.invariant-loop-member
invariant-loop-member l =
    record {
      dropped : l.banks ≡ dropped_so_far (λ bank. retired_bank bank l.now) l.initial.banks l.member;
      freed : l.freed ≡ banks_bytes (take l.member l.initial.banks);
    }
