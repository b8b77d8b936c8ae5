-- The contracts that docs/trusted.md lists do not depend on this file; other contracts and proofs do.
-- The words of a line, and the command that they spell.
use Rattle.std.specs.Prelude.{◌≡◌, ◌==◌, ℕ, List, [], ◌∷◌, ⊤, Bool, filter, length, nat_lt, slice_index, Result}
use Rattle.std.specs.Prelude.{MatchResult}
use Rattle.std.specs.List.{slice_split}
use Rattle.std.specs.Str.{IsAscii}
use Rattle.words.specs.Word.{Word}
use Rattle.script.specs.Command.{SpellsCommand}
use Rattle.script.specs.declared.command.Command.{Command}
use Rattle.script.specs.declared.line.Line.{Line}
use Rattle.script.specs.declared.line.Line.TheVariants as of
use Rattle.script.specs.declared.error.LineError.{LineError}
use Rattle.script.specs.declared.error.LineError.TheVariants.{Bad, NoMemory}

-- whether a byte is a space
abbrev pub is_space : ℕ → Bool
is_space byte = byte == 32

-- the words of a line: its parts between spaces, without the empty ones
abbrev pub words_of : List ℕ → List Word
words_of line = filter (λ part. nat_lt 0 (length part)) (slice_split is_space line)

-- a line of these words is skipped: there is no word, or the first one begins with `#`
abbrev pub IsSkipped : List Word → Type 0
IsSkipped [] = ⊤
IsSkipped (first ∷ rest) = slice_index first 0 ≡ 35

-- the line is skipped, or it is ASCII and its words spell the command
abbrev pub IsLine : List ℕ → Line → Type 0
IsLine line of.Skipped = IsSkipped (words_of line)
IsLine line (of.Command command) = ¬ (IsSkipped (words_of line)) × IsAscii line × SpellsCommand (words_of line) command

-- why a line that is not skipped gives no command: it is not ASCII or spells no command, or memory is refused
abbrev pub IsErrorOfLine : List ℕ → LineError → Type 0
IsErrorOfLine line Bad =
    ¬ (IsSkipped (words_of line)) × (IsAscii line → (c : Command) → ¬ (SpellsCommand (words_of line) c))
IsErrorOfLine line NoMemory = ¬ (IsSkipped (words_of line))

-- the result is what the line says, or why it gives no command
abbrev pub IsReadingOfLine : List ℕ → Result Line LineError → Type 0
IsReadingOfLine line result = MatchResult result (IsLine line) (IsErrorOfLine line)
