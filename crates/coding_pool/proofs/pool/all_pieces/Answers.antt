use Rattle.std.proofs.Common.{◌≡◌, ℕ, ap, ◌∙◌, arith, rules, subst}
use Rattle.std.proofs.lemmas.List.Sorted.{IsNonDecreasingBy-from_sort_by_key}
use Rattle.crossbeam_queue.specs.Passes.{view}
use Rattle.coding_pool.specs.declared.jobs.Known.{Known}
use Rattle.coding_pool.specs.Jobs.{PARTS}
use Rattle.coding_pool.specs.Worker.{point_of, IsEach}
use Rattle.coding_pool.proofs.SortedPieceLemmas.{sorted_pieces}
use Rattle.coding_pool.proofs.pool.all_pieces.Goals as goal

pub returns : goal.returns
returns g c =
    let up = IsNonDecreasingBy-from_sort_by_key point_of _ c.sort_unstable_by_key.ensures.sorted (λ a r q k. search rules) in
    let hired = c.in_ok-crew.ensures.view in
    let begun = ap (λ (v : Known). v.pushed) c.push_all.ensures.pushed in
    let mine = ap view c.new.ensures.pass in
    let parts : (view c.in_ok-caller.caller.pass).parts
    ≡ PARTS = omega (
      arith,
      c.in_ok-caller.ensures.parts,
      ap (λ (v : Known). v.parts) mine,
      ap (λ (v : Known). v.parts) hired,
      c.in_ok-answers.ensures.count,
      c.in_ok-crew.ensures.count,
      c.requires.workers,
    ) in
    let pushed : (view c.in_ok-caller.caller.pass).pushed ≡ c.args.n = c.in_ok-caller.ensures.pushed
    ∙ ap (λ (v : Known). v.pushed) mine ∙ ap (λ (v : Known). v.pushed) hired ∙ begun in
    let each : IsEach c.args.n c.in_ok-pieces.field-0.pieces.items = subst
    (λ (m : ℕ). IsEach m c.in_ok-pieces.field-0.pieces.items) pushed (c.in_ok-pieces.ensures.whole parts) in
    let found = sorted_pieces c.args.value.now c.args.k c.args.n c.in_ok-pieces.field-0.pieces.items c.sort_unstable_by_key.new.self.items
    c.sort_unstable_by_key.ensures.permutation up each c.in_ok-pieces.ensures.worker.made in
    record { count = found.0; pieces = found.1; refused = search rules }
