use Rattle.std.proofs.Common.{rules}
use Rattle.std.specs.Ordering.{is_lt}
use Rattle.std.proofs.lemmas.List.Sorted.{answers_always}
use Rattle.locked_steps.proofs.DistinctKeyLemmas.{key_cmp, distinct_in_order}
use Rattle.locked_steps.proofs.fitting.have_no_repeat.Goals as goal

pub returns : goal.returns
returns c =
    distinct_in_order _ _ _ c.sort_unstable.ensures.permutation c.sort_unstable.ensures.sorted
    (c.is_sorted_by.ensures.cases (λ x y. is_lt (key_cmp x y)) (answers_always _ _ _ (λ f a r q k. search rules)))
