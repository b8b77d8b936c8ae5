-- The contracts that docs/trusted.md lists do not depend on this file; other contracts and proofs do.
-- The lines of what calls cost.
use Rattle.std.specs.Prelude.{ℕ, ◌-◌, List, [], ◌∷◌, ◌++◌, length, fold, Option, Some, None, codes}
use Rattle.std.specs.Fmt.{decimal}
use Rattle.std.specs.List.{flat_map}
use Rattle.printing.specs.Words.{in_words}
use Rattle.printing.specs.Vocabulary.{word_of_operation}
use Rattle.record.specs.declared.call.Entry.{Entry}
use Rattle.record.specs.Records.{Object}
use Rattle.trace.specs.declared.cost.Cost.{Cost}
use Rattle.trace.specs.Cost.{cost_of, no_cost, plus}

-- the text of a cost: each number after its name
abbrev pub cost_text : Cost → List ℕ
cost_text cost = in_words (
    codes "phases" ∷ decimal cost.phases ∷ codes "requests" ∷ decimal cost.requests
    ∷ codes "replies" ∷ decimal cost.replies ∷ codes "sent" ∷ decimal cost.sent
    ∷ codes "returned" ∷ decimal cost.returned ∷ [])

-- the number of steps from a call to its answer, or a dash if it has none
abbrev pub steps_text : (called : ℕ) → (answered : Option ℕ) → List ℕ
steps_text called None = codes "-"
steps_text called (Some answered) = decimal (answered - called)

-- the text of what one call cost
abbrev pub line_text : Entry → Cost → List ℕ
line_text entry cost = in_words (
    codes "call" ∷ decimal entry.call ∷ word_of_operation entry.kind ∷ cost_text cost
    ∷ codes "steps" ∷ steps_text entry.called entry.answered ∷ [])

-- the text of what all calls cost together
abbrev pub total_text : (calls : ℕ) → Cost → List ℕ
total_text calls cost = in_words (codes "calls" ∷ decimal calls ∷ cost_text cost ∷ [])

-- the text of what a call of an object cost, with its line feed
abbrev pub cost_line : Object → Entry → List ℕ
cost_line object entry = line_text entry (cost_of object entry.call) ++ codes "\n"

-- what all these calls cost together
abbrev pub total_of : Object → List Entry → Cost
total_of object entries = fold (λ total entry. plus total (cost_of object entry.call)) no_cost entries

-- the lines: one for each call, and one for all of them together
abbrev pub costs_text : Object → List Entry → List ℕ
costs_text object entries =
    flat_map (cost_line object) entries ++ (total_text (length entries) (total_of object entries) ++ codes "\n")
