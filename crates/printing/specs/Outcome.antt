-- The contracts that docs/trusted.md lists do not depend on this file; other contracts and proofs do.
-- The line that says what a command did.
use Rattle.std.specs.Prelude.{ℕ, List, [], ◌∷◌, Bool, true, false, codes}
use Rattle.std.specs.Fmt.{decimal}
use Rattle.tag.specs.Refusal.{refusal_text}
use Rattle.printing.specs.declared.outcome.Outcome.{Outcome}
use Rattle.printing.specs.declared.outcome.Outcome.TheVariants as of
use Rattle.printing.specs.Vocabulary.{word_of_took}
use Rattle.printing.specs.Words.{in_words}

-- the word for the result of a check
abbrev pub word_of_check : Bool → List ℕ
word_of_check true = codes "true"
word_of_check false = codes "false"

-- the line of each outcome
abbrev pub outcome_text : Outcome → List ℕ
outcome_text of.Done = codes "ok"
outcome_text (of.Layout id) = in_words (codes "layout" ∷ decimal id ∷ [])
outcome_text (of.Called call) = in_words (codes "call" ∷ decimal call ∷ [])
outcome_text (of.Took took) = word_of_took took
outcome_text (of.Handled steps) = in_words (codes "handled" ∷ decimal steps ∷ [])
outcome_text (of.Freed bytes) = in_words (codes "freed" ∷ decimal bytes ∷ [])
outcome_text (of.Refused refusal) = in_words (codes "refused" ∷ refusal_text refusal ∷ [])
outcome_text (of.CallRefused call refusal) =
    in_words (codes "call" ∷ decimal call ∷ codes "refused" ∷ refusal_text refusal ∷ [])
outcome_text (of.Checked holds) = in_words (codes "check" ∷ word_of_check holds ∷ [])
