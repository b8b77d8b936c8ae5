-- The contracts that docs/trusted.md lists do not depend on this file; other contracts and proofs do.
-- The lines of a history.
use Rattle.std.specs.Prelude.{ℕ, List, [], ◌∷◌, ◌++◌, codes}
use Rattle.std.specs.Fmt.{decimal}
use Rattle.std.specs.List.{flat_map}
use Rattle.record.specs.declared.call.Entry.{Entry}
use Rattle.words.specs.Hexadecimal.{hexadecimal_text}
use Rattle.printing.specs.Vocabulary.{word_of_operation}
use Rattle.printing.specs.Words.{in_words, text_or_dash}

-- the call and what it does, the step that began it and the one that answered it, and its value
abbrev pub entry_text : Entry → List ℕ
entry_text e = in_words (
    decimal e.call ∷ word_of_operation e.kind ∷ decimal e.called ∷ text_or_dash decimal e.answered
    ∷ text_or_dash hexadecimal_text e.value ∷ [])

-- the text of an entry with its line feed
abbrev pub entry_line : Entry → List ℕ
entry_line e = entry_text e ++ codes "\n"

-- the lines of a history: one for each entry
abbrev pub history_text : List Entry → List ℕ
history_text entries = flat_map entry_line entries
