-- The codes in a head, and what each stands for.
use Rattle.std.specs.Prelude.{◌==◌, ℕ, Result, Ok, Err, Bool, true, false, if◌then◌else◌}
use Rattle.bank.specs.declared.kind.Kind.{Kind}
use Rattle.bank.specs.declared.kind.Kind.TheVariants as kind
use Rattle.bank.specs.declared.status.Status.{Status}
use Rattle.bank.specs.declared.status.Status.TheVariants as status
use Rattle.node_messages.specs.declared.error.Fault.{Fault}
use Rattle.node_messages.specs.declared.error.Fault.TheVariants.{UnknownCode}

-- the code of a status of a pointer
abbrev pub status_code : Status → ℕ
status_code status.Unset = 0
status_code status.Pending = 1
status_code status.Final = 2

-- the status for which a code stands
unfoldable pub status_from : ℕ → Result Status Fault
status_from code =
    if code == 0 then Ok status.Unset
    else (if code == 1 then Ok status.Pending
    else (if code == 2 then Ok status.Final
    else Err UnknownCode))

-- the code of the kind of a request, without its status or tag
abbrev pub kind_code : Kind → ℕ
kind_code kind.Next = 0
kind_code (kind.Spread status) = 1
kind_code kind.Query = 2
kind_code (kind.PreWrite tag) = 3
kind_code (kind.Finalize tag) = 4
kind_code (kind.Fetch tag) = 5

-- the code of a letter that tells nothing: whether it asks for a piece
abbrev pub asking_code : Bool → ℕ
asking_code asks = if asks then 1 else 0

-- the answer for which a code stands: 0 is no, and 1 is yes
unfoldable pub flag_from : ℕ → Result Bool Fault
flag_from code =
    if code == 0 then Ok false
    else (if code == 1 then Ok true
    else Err UnknownCode)
