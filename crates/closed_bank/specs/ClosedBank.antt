-- Closed banks: what a member keeps of a position whose pointer is final, and to which whole bank a closed one belongs.
use Rattle.std.specs.Prelude.{◌≡◌, Option, None, Some}
use Rattle.tag.specs.declared.tag.Tag.{Tag}
use Rattle.bank.specs.declared.status.Status.{Status}
use Rattle.bank.specs.declared.status.Status.TheVariants as status
use Rattle.bank.specs.Bank.{Bank}
use Rattle.bank.specs.Pointer.{status_of}
use Rattle.bank.specs.Serve.{greatest_final}

-- a closed bank: its greatest finalized tag; its pointer is final
pub record ClosedBank : Type 0 where
  pub greatest : Tag

-- the closed bank belongs to the whole bank: the pointer of the whole bank is final, and both have the same greatest
-- finalized tag
pub record IsClosedFor (whole : Bank) (closed : ClosedBank) : Type 0 where
  pub final : status_of whole.pointer ≡ status.Final
  pub greatest : greatest_final whole ≡ closed.greatest

-- what is kept of a bank with this status of its pointer and this greatest finalized tag, if the pointer is final
abbrev pub closed_if : Status → Tag → Option ClosedBank
closed_if status.Final greatest = Some (record { greatest = greatest })
closed_if s greatest = None

-- the closed bank that a bank becomes, if its pointer is final
abbrev pub closed_of : Bank → Option ClosedBank
closed_of bank = closed_if (status_of bank.pointer) (greatest_final bank)
