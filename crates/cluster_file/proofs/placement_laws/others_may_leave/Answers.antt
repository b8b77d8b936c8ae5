use Rattle.std.proofs.Common.{ap, take, List, ℕ, ◌++◌, ◌∙◌, sym}
use Rattle.layout.specs.Layout.{Layout}
use Rattle.cluster_file.specs.Placement.{in_order}
use Rattle.cluster_file.proofs.FirstNodesLemmas.{take-with_other}
use Rattle.cluster_file.proofs.NodeOrderLemmas.{in_order-middle}
use Rattle.cluster_file.proofs.placement_laws.others_may_leave.Goals as goal

pub returns : goal.returns
returns c k n node before behind name none =
    let middle = in_order-middle name before node behind in
    let first = take-with_other name node n (in_order name (before ++ behind)) (rw middle at none) in
    ap (λ (xs : List ℕ). let l : Layout = record { k = k; members = xs } in l) (first ∙ sym (ap (λ zs. take n zs) middle))
