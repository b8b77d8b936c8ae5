-- The contracts that docs/trusted.md lists do not depend on this file; other contracts and proofs do.
-- Objects of a node all of whose letters can be written.
use Rattle.std.specs.Prelude.{◌≡◌, ◌<◌, ◌^◌, suc, List, true, Bool, false, IfSome, IsSome, Option, None, Some}
use Rattle.std.specs.FinMap as map
use Rattle.std.specs.List.{AllByRecursion}
use Rattle.bank.specs.Bank.{Bank, piece_of_row}
use Rattle.bank.specs.Pointer.{status_of}
use Rattle.bank.specs.declared.row.Row.{Row}
use Rattle.bank.specs.declared.status.Status.{Status}
use Rattle.bank.specs.declared.status.Status.TheVariants as status
use Rattle.local_object.specs.Local.{LocalObject, Place, heard_place, layout_in}
use Rattle.local_object.specs.Starting.{first_number}
use Rattle.local_object.specs.declared.kept_bank.KeptBank.{KeptBank}
use Rattle.local_object.specs.declared.kept_bank.KeptBank.TheVariants as kept
use Rattle.local_object.specs.declared.report.Report.{Report}
use Rattle.mail.specs.Message.{status_names_next}
use Rattle.node_messages.specs.Message.{IsTag}
use Rattle.tag.specs.declared.tag.Tag.{Tag}
use Rattle.fitting.specs.Calls.{IsFitCall}
use Rattle.fitting.specs.Letters.{IsFitLayout, IsFitPiece}

-- the numbers of a tag are within their bits, and the piece in its row, if there is one, fits
pub record IsFitRow (tag : Tag) (row : Row) : Type 0 where
  pub numbers : IsTag tag
  pub piece : IfSome (piece_of_row (Some row)) IsFitPiece

-- each tag that a bank knows is within its bits, and each piece fits
abbrev pub IsFitBank : Bank → Type 0
IsFitBank bank = (tag : Tag) (row : Row) → map.get bank.rows tag ≡ Some row → IsFitRow tag row

-- what is kept of a bank fits: each tag and each piece of an open one, and the greatest tag of a closed one
abbrev pub IsFitKept : KeptBank → Type 0
IsFitKept (kept.Open bank) = IsFitBank bank
IsFitKept (kept.Closed closed) = IsTag closed.greatest

-- the status of the pointer of a bank; that of a closed one is final
abbrev pub kept_status : KeptBank → Status
kept_status (kept.Open bank) = status_of bank.pointer
kept_status (kept.Closed closed) = status.Final

-- whether there is a bank, and its pointer says that there is a next position
abbrev pub says_next : Option KeptBank → Bool
says_next None = false
says_next (Some bank) = status_names_next (kept_status bank)

-- one of the places that a node has heard of: the number of its position fits 32 bits, its layout is fit, and so is
-- what is kept of a bank; and if the bank says that there is a next position, the node has heard of that, too
pub record IsFitPlace (places : List Place) (place : Place) : Type 0 where
  pub position : place.position < 2 ^ 32
  pub layout : IsFitLayout place.layout
  pub bank : IfSome place.bank IsFitKept
  pub next : says_next place.bank ≡ true → IsSome (layout_in (heard_place places (suc place.position)))

-- the numbers of the tag that a member told are within their bits
abbrev pub IsFitReport : Report → Type 0
IsFitReport report = IsTag report.telling.greatest

-- an object of a node is fit: its places and its calls are, the tags that its calls were told are within their bits,
-- and there is a number for the first phase of a call that begins at its start
pub record IsFitObject (local : LocalObject) : Type 0 where
  pub start : first_number local.start < 2 ^ 32
  pub places : AllByRecursion (IsFitPlace local.places) local.places
  pub calls : AllByRecursion (IsFitCall local.places) local.calls
  pub reports : AllByRecursion IsFitReport local.reports
