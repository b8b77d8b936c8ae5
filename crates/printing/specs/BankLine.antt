-- The contracts that docs/trusted.md lists do not depend on this file; other contracts and proofs do.
-- The line of a bank.
use Rattle.std.specs.Prelude.{ℕ, List, [], ◌∷◌, ◌++◌, length, codes, Some}
use Rattle.std.specs.Fmt.{decimal}
use Rattle.std.specs.FinMap as map
use Rattle.std.specs.List.{flat_map}
use Rattle.tag.specs.declared.tag.Tag.{Tag}
use Rattle.tag.specs.Tag.{tag_text}
use Rattle.bank.specs.declared.row.Row.{Row}
use Rattle.bank.specs.Bank.{Bank, piece_of_row}
use Rattle.bank.specs.Pointer.{status_of}
use Rattle.printing.specs.Vocabulary.{word_of_label, word_of_status}
use Rattle.printing.specs.Words.{in_words, text_or_dash}

-- a tag, its label, and the length in bytes of its piece, or a dash if there is no piece
abbrev pub row_text : Tag → Row → List ℕ
row_text tag row =
    in_words
    (tag_text tag ∷ word_of_label row.label
    ∷ text_or_dash (λ p. decimal (length p.bytes)) (piece_of_row (Some row)) ∷ [])

-- a semicolon, a space, and what the bank keeps for a tag
abbrev pub kept_text : Tag × Row → List ℕ
kept_text kept = codes "; " ++ row_text kept.0 kept.1

-- the line: the status of the pointer to the next position, and what the bank keeps for each tag, in rising order
abbrev pub bank_text : Bank → List ℕ
bank_text b = in_words (codes "next" ∷ word_of_status (status_of b.pointer) ∷ [])
    ++ flat_map kept_text (map.entries b.rows)
