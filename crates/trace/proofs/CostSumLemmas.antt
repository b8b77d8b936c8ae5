-- Costs that grow by that of one more call.
use Rattle.std.proofs.Common.{◌≡◌, ℕ, ◌+◌, ◌<◌, List, length, take, get_or, sym, ap, ◌∙◌}
use Rattle.std.proofs.lemmas.List.Sums.{fold_more}
use Rattle.record.specs.declared.call.Entry.{Entry}
use Rattle.record.specs.Records.{Object}
use Rattle.trace.specs.declared.cost.Cost.{Cost}
use Rattle.trace.specs.Cost.{cost_of, no_cost, plus}
use Rattle.trace.specs.CostLines.{total_of}

-- the cost of the first calls and of one more
pub total_of-take_item : (object : Object) (entries : List Entry) (i : ℕ) (entry : Entry) → i < length entries
    → entry ≡ get_or entries i entry
    → total_of object (take (i + 1) entries) ≡ plus (total_of object (take i entries)) (cost_of object entry.call)
total_of-take_item object entries i entry below is =
    let add : Cost → Entry → Cost = λ total one. plus total (cost_of object one.call) in
    fold_more add no_cost entries i entry below ∙ ap (λ (e : Entry). add (total_of object (take i entries)) e) (sym is)
