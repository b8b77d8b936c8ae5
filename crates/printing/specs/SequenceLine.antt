-- The contracts that docs/trusted.md lists do not depend on this file; other contracts and proofs do.
-- The line of a sequence of calls.
use Rattle.std.specs.Prelude.{ℕ, List, [], ◌∷◌, codes, map}
use Rattle.std.specs.Fmt.{decimal}
use Rattle.printing.specs.Words.{in_words}

-- the line: the numbers of the calls, separated by spaces, or a dash if there is none
abbrev pub sequence_text : List ℕ → List ℕ
sequence_text [] = codes "-"
sequence_text (first ∷ rest) = in_words (map decimal (first ∷ rest))
