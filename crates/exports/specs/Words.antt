-- The contracts that docs/trusted.md lists do not depend on this file; other contracts and proofs do.
-- The words that both forms of a history share.
use Rattle.std.specs.Prelude.{ℕ, List, ◌++◌, Option, Some, None, codes}
use Rattle.words.specs.Hexadecimal.{hexadecimal_text}
use Rattle.exports.specs.declared.event.Stage.{Stage}
use Rattle.exports.specs.declared.event.Stage.TheVariants as stage

-- a value in hexadecimal between quotes, or this word if there is none
abbrev pub quoted_or : Option (List ℕ) → (none : List ℕ) → List ℕ
quoted_or None none = none
quoted_or (Some value) none = codes "\"" ++ hexadecimal_text value ++ codes "\""

-- the word for a stage
abbrev pub word_of_stage : Stage → List ℕ
word_of_stage stage.Invoke = codes "invoke"
word_of_stage stage.Complete = codes "ok"
word_of_stage stage.Info = codes "info"
