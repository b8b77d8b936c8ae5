-- The contracts that docs/trusted.md lists do not depend on this file; other contracts and proofs do.
-- The lines of a text that have a word, with their words.
use Rattle.std.specs.Prelude.{ℕ, ◌+◌, ◌==◌, ◌||◌, Bool, List, [], ◌∷◌, length, filter, nat_lt, Option, Some, None}
use Rattle.std.specs.List.{slice_split, before_first}
use Rattle.std.specs.Str.Lines.{lines}
use Rattle.words.specs.Word.{Word}

-- a line that has a word: its number, its first word, and the words after it
pub record Line : Type 0 where
  pub number : ℕ
  pub name : Word
  pub values : List Word

-- whether a byte separates words: a space or a tab
abbrev pub is_blank : ℕ → Bool
is_blank byte = byte == 32 || byte == 9

-- a line without its comment: what comes before the first `#`
abbrev pub without_comment : List ℕ → List ℕ
without_comment text = before_first (λ byte. byte == 35) text

-- the words of a text: its parts between blanks, without the empty ones
abbrev pub words_between_blanks : List ℕ → List Word
words_between_blanks text = filter (λ part. nat_lt 0 (length part)) (slice_split is_blank text)

-- the words of a line, without those of its comment
abbrev pub words_before_comment : List ℕ → List Word
words_before_comment text = words_between_blanks (without_comment text)

-- the line with this number and these words, if there is a word
abbrev pub line_from : ℕ → List Word → Option Line
line_from number [] = None
line_from number (name ∷ values) = Some (record { number = number; name = name; values = values })

-- a line in front of others, if there is one
abbrev pub with_line : Option Line → List Line → List Line
with_line None lines = lines
with_line (Some line) lines = line ∷ lines

-- the lines that have a word among these texts, of which the first one has this number
abbrev pub lines_from : ℕ → List (List ℕ) → List Line
lines_from number [] = []
lines_from number (text ∷ texts) =
    with_line (line_from number (words_before_comment text)) (lines_from (number + 1) texts)

-- the lines of a text that have a word, where the first line has the number 1
abbrev pub lines_of : List ℕ → List Line
lines_of text = lines_from 1 (lines text)

-- the number of the line after the last line of a text
abbrev pub end_line : List ℕ → ℕ
end_line text = length (lines text) + 1
