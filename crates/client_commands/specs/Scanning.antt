-- The arguments of a SCAN.
use Rattle.std.specs.Prelude.{◌≡◌, ◌<◌, ℕ, ◌-◌, ◌^◌, min, List, [], ◌∷◌, length, None, Some, codes}
use Rattle.std.specs.Prelude.{Result, Ok, Err, ◌==◌, false, if◌then◌else◌, nat_lt}
use Rattle.std.specs.Fmt.{decimal}
use Rattle.words.specs.Parts.{and_then}
use Rattle.node_strings.specs.Numbers.{number_up_to}
use Rattle.node_strings.specs.Strings.{Strings}
use Rattle.client_commands.specs.Words.{is_word}
use Rattle.client_commands.specs.declared.command.Command.{Command}
use Rattle.client_commands.specs.declared.command.Command.TheVariants as ask
use Rattle.client_commands.specs.declared.command.CommandName.TheVariants as of
use Rattle.client_commands.specs.declared.fault.CommandFault.{CommandFault}
use Rattle.client_commands.specs.declared.fault.CommandFault.TheVariants.{WrongCount, BadCursor, NotInteger}
use Rattle.client_commands.specs.declared.fault.CommandFault.TheVariants.{SyntaxError, PatternTooLong, NoSets}
use Rattle.tag.specs.declared.limits.TheConstants.{LONGEST_NAME}
use Rattle.client_commands.specs.Patterns.{has_set}
use Rattle.client_commands.specs.declared.scanning.ScanOptions.{ScanOptions}
use Rattle.client_commands.specs.declared.scanning.TheConstants.{DEFAULT_COUNT, MOST_SCANNED}

-- what a SCAN without options asks
abbrev pub default_options : ScanOptions
default_options = record { pattern = None; count = DEFAULT_COUNT }

-- the cursor that a string writes: a number of 64 bits
abbrev pub cursor_from : List ℕ → Result ℕ CommandFault
cursor_from string = number_up_to BadCursor (2 ^ 64 - 1) BadCursor string

-- the count that a string writes: a number from 1 to 2^63 - 1, or MOST_SCANNED if that is less
unfoldable pub count_from : List ℕ → Result ℕ CommandFault
count_from string =
    and_then (number_up_to NotInteger (2 ^ 63 - 1) NotInteger string) (λ count.
    if count == 0 then Err SyntaxError else Ok (min count MOST_SCANNED))

-- this pattern, unless it is longer than a name may be, or has a set
abbrev pub checked_pattern : List ℕ → Result (List ℕ) CommandFault
checked_pattern pattern =
    if nat_lt LONGEST_NAME (length pattern) then Err PatternTooLong
    else (if has_set false pattern then Err NoSets else Ok pattern)

-- these options, with what a word and its value ask: COUNT and a count, or MATCH and a pattern
unfoldable pub option_from : ScanOptions → (word value : List ℕ) → Result ScanOptions CommandFault
option_from options word value =
    if is_word word (codes "count")
    then and_then (count_from value) (λ count. Ok (record { pattern = options.pattern; count = count }))
    else (if is_word word (codes "match")
    then and_then (checked_pattern value) (λ pattern. Ok (record { pattern = Some pattern; count = options.count }))
    else Err SyntaxError)

-- these options, with what these words ask, in their order: of several of a kind the last one counts
abbrev pub options_from : ScanOptions → Strings → Result ScanOptions CommandFault
options_from options [] = Ok options
options_from options (word ∷ []) = Err SyntaxError
options_from options (word ∷ value ∷ more) =
    and_then (option_from options word value) (λ options. options_from options more)

-- SCAN: a cursor, and then options
unfoldable pub scan_from : Strings → Result Command CommandFault
scan_from [] = Err (WrongCount of.Scan)
scan_from (word ∷ words) =
    and_then (cursor_from word) (λ cursor.
    and_then (options_from default_options words) (λ options.
    Ok (ask.Scan cursor options)))

-- the words after SCAN are this cursor, in decimal digits, and options that ask for these
abbrev pub AskToScan : (cursor : ℕ) → ScanOptions → Strings → Type 0
AskToScan cursor options [] = ⊥
AskToScan cursor options (word ∷ words) =
    (word ≡ decimal cursor) × (cursor < 2 ^ 64) × (options_from default_options words ≡ Ok options)
