-- Which requests may change a bank, and which bank a node keeps after it served a request.
use Rattle.std.specs.Prelude.{ℕ, if◌then◌else◌, not, ◌||◌, Bool, false, Option, None, Some}
use Rattle.tag.specs.Tag.{tag_eq}
use Rattle.bank.specs.Bank.{Bank, opened_bank}
use Rattle.bank.specs.Floor.{is_forgotten, remembered}
use Rattle.bank.specs.Knowledge.{status_le}
use Rattle.bank.specs.Pointer.{status_of}
use Rattle.bank.specs.Serve.{greatest_final, served_bank}
use Rattle.bank.specs.declared.request.Request.{Request}
use Rattle.bank.specs.declared.request.Request.TheVariants as request
use Rattle.closed_bank.specs.Serve.{changes_closed, closed_after}
use Rattle.local_object.specs.declared.kept_bank.KeptBank.{KeptBank}
use Rattle.local_object.specs.declared.kept_bank.KeptBank.TheVariants as kept

-- whether a request may change a bank: it raises the pointer; or it names a tag that may not be forgotten, and brings a
-- piece or finalizes a tag that is not the greatest finalized one
abbrev pub changes_bank : Bank → Request → Bool
changes_bank bank request.Next = false
changes_bank bank (request.Spread status) = not (status_le status (status_of bank.pointer))
changes_bank bank request.Query = false
changes_bank bank (request.PreWrite tag piece) = not (is_forgotten bank tag)
changes_bank bank (request.Finalize tag) = not (tag_eq (greatest_final bank) tag || is_forgotten bank tag)
changes_bank bank (request.Fetch tag) = not (tag_eq (greatest_final bank) tag || is_forgotten bank tag)

-- the bank that a node keeps in place of this one after it served a request, without the rows that it may forget
abbrev pub bank_after : Bank → Request → Bank
bank_after bank asked = remembered (served_bank bank asked 0)

-- an open bank, or a newly opened one if there is none
abbrev pub whole_or_opened : Option Bank → (member : ℕ) → (delta : Option ℕ) → Bank
whole_or_opened None member delta = opened_bank member delta 0
whole_or_opened (Some bank) member delta = bank

-- whether a request may change what is kept of a bank; it changes a closed one if it finalizes a greater tag
abbrev pub changes_kept : KeptBank → Request → Bool
changes_kept (kept.Open bank) asked = changes_bank bank asked
changes_kept (kept.Closed closed) asked = changes_closed closed asked

-- what is kept of a bank after it served a request
abbrev pub kept_after : KeptBank → Request → KeptBank
kept_after (kept.Open bank) asked = kept.Open (bank_after bank asked)
kept_after (kept.Closed closed) asked = kept.Closed (closed_after closed asked)

-- what is kept after the bank served a request; a newly opened one is kept only if the request may change it
abbrev pub kept_bank : Option KeptBank → (member : ℕ) → (delta : Option ℕ) → Request → Option KeptBank
kept_bank None member delta asked =
    let opened = opened_bank member delta 0 in
    if changes_bank opened asked then Some (kept.Open (bank_after opened asked)) else None
kept_bank (Some bank) member delta asked = Some (kept_after bank asked)
