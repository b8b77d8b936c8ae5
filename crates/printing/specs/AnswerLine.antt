-- The contracts that docs/trusted.md lists do not depend on this file; other contracts and proofs do.
-- The line of an answered call.
use Rattle.std.specs.Prelude.{ℕ, List, [], ◌∷◌, Option, Some, codes}
use Rattle.std.specs.Fmt.{decimal}
use Rattle.record.specs.declared.call.Operation.{Operation}
use Rattle.record.specs.declared.call.Operation.TheVariants as operation
use Rattle.call.specs.declared.receipt.Receipt.{Receipt}
use Rattle.words.specs.Hexadecimal.{hexadecimal_text}
use Rattle.printing.specs.Words.{in_words}

-- for a read the value that it returned, and for any other call that it is answered
abbrev pub words_of_answer : Operation → Option (List ℕ) → List (List ℕ)
words_of_answer operation.Read (Some value) = codes "value" ∷ hexadecimal_text value ∷ []
words_of_answer o v = codes "answered" ∷ []

-- the line: the number of the call, and its answer
abbrev pub answer_text : Receipt → List ℕ
answer_text r = in_words (codes "call" ∷ decimal r.call ∷ words_of_answer r.kind r.value)
