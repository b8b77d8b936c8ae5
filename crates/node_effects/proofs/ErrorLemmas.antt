-- What does not fit into a frame or an entry, and what always does.
use Rattle.std.proofs.Common.{◌≡◌, ◌<◌, ◌≤◌, ◌^◌, ℕ, List, [], ◌∷◌, length, length-append}
use Rattle.std.proofs.Common.{refl, arith}
use Rattle.std.specs.Prelude.{codes}
use Rattle.std.specs.Fmt.{decimal}
use Rattle.std.proofs.lemmas.Fmt.{length-decimal-le}
use Rattle.frames.specs.Frame.{IsFrame, IsNoFrame, IsShort}
use Rattle.frames.specs.declared.error.Fault.{Fault}
use Rattle.frames.specs.declared.error.Fault.TheVariants as faults
use Rattle.frames.specs.declared.limits.TheConstants.{LONGEST_STRING, MOST_STRINGS}
use Rattle.node_log.specs.Entry.{IsEntry}
use Rattle.node_strings.specs.Arrival.{client_address}
use Rattle.node_strings.specs.Record.{record_strings}
use Rattle.node_strings.specs.declared.record.Record.TheVariants as record_of
use Rattle.node_strings.specs.Strings.{Strings}

pub no_frame : (strings : Strings) (fault : Fault) → IsNoFrame strings fault → IsFrame strings → ⊥
no_frame strings faults.TooManyStrings many is =
    let few : length strings ≤ MOST_STRINGS = is.few in omega arith
no_frame strings faults.StringTooLong none is = none.1 is.short
no_frame strings faults.BadType none is = none
no_frame strings faults.BadNumber none is = none
no_frame strings faults.NoLineEnd none is = none
no_frame strings faults.UnexpectedEnd none is = none

-- a string of at most 100 bytes is short
small : (string : List ℕ) → length string ≤ 100 → IsShort string
small string le = let limit : LONGEST_STRING ≡ 16842752 = refl in omega arith

-- the entry of a start fits
pub start_fits : IsEntry (record_strings record_of.Start)
start_fits =
    let limit : MOST_STRINGS ≡ 1024 = refl in record {
      few = omega arith;
      short = (small (codes "start") (omega arith), tt);
    }

-- the address of a client is a frame by itself
pub client_fits : (client : ℕ) → client < 2 ^ 64 → IsFrame (client_address client ∷ [])
client_fits client within =
    let limit : MOST_STRINGS ≡ 1024 = refl in
    let digits : length (decimal client) ≤ 20 = length-decimal-le 20 client (omega arith) (omega arith) within in
    record {
      few = omega arith;
      short = (small (client_address client) (omega (arith, length-append (codes "client ") (decimal client))), tt);
    }
