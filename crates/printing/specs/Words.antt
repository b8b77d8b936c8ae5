-- The contracts that docs/trusted.md lists do not depend on this file; other contracts and proofs do.
-- Lines of words, and values that may be absent.
use Rattle.std.specs.Prelude.{ℕ, List, Option, Some, None, codes}
use Rattle.std.specs.List.{join_with_byte}

-- the words, separated by spaces
abbrev pub in_words : List (List ℕ) → List ℕ
in_words words = join_with_byte 32 words

-- the text of a value, or a dash if there is none
abbrev pub text_or_dash : {T : Type 0} → (T → List ℕ) → Option T → List ℕ
text_or_dash text None = codes "-"
text_or_dash text (Some x) = text x
