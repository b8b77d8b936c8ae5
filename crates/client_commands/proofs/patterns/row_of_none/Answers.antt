use Rattle.std.proofs.Common.{[], List, Bool, ◌++◌, ◌≡◌, ◌∙◌, ap, ◌∷◌, true, false, replicate, length, arith}
use Rattle.std.proofs.lemmas.List.{replicate-append-replicate}
use Rattle.client_commands.proofs.PatternLemmas.{none_row}
use Rattle.client_commands.proofs.patterns.row_of_none.Goals as goal

pub returns : goal.returns
returns c =
    let end : c.loop-byte._byte-index ≡ length c.args.text.now = omega (arith, c.loop-byte-test.false, c.loop-byte.auto._byte-index-end) in
    none_row c.args.text.now c.loop-byte.row.items (c.loop-byte.invariant ∙ ap (λ n. true ∷ replicate n false) end)

pub loop-byte-preserved : goal.loop-byte-preserved
loop-byte-preserved c =
    c.in_ok-push-2.ensures.items ∙ ap (λ (row : List Bool). row ++ false ∷ []) c.loop-byte.invariant
    ∙ ap (λ (rest : List Bool). true ∷ rest) (replicate-append-replicate c.loop-byte._byte-index 1 false)

pub loop-byte-init : goal.loop-byte-init
loop-byte-init c =
    c.in_ok-push.ensures.items ∙ ap (λ (row : List Bool). row ++ true ∷ []) c.new-row.ensures.items
