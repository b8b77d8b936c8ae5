use Rattle.std.proofs.Common.{◌++◌, ◌∷◌, [], List, ℕ, ap, sym, ◌∙◌}
use Rattle.node_effects.specs.Work.{entries_in}
use Rattle.node_effects.proofs.GrowthLemmas.{entries_append}
use Rattle.node_effects.proofs.work.Work.into_entries.Goals as goal

pub loop-output-preserved : goal.loop-output-preserved
loop-output-preserved c =
    let one = c.in-Some.output ∷ [] in
    c.in_ok-push_entry.ensures.pushed ∙ ap (λ (xs : List (List (List ℕ))). xs ++ entries_in one) c.loop-output.invariant
    ∙ sym (entries_append c.loop-output.yielded one)
