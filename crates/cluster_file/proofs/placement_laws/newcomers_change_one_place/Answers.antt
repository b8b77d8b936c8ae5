use Rattle.std.proofs.Common.{ap, take, ◌∙◌}
use Rattle.cluster_file.specs.Placement.{in_order}
use Rattle.cluster_file.proofs.FirstNodesLemmas.{take-with_node}
use Rattle.cluster_file.proofs.NodeOrderLemmas.{in_order-push}
use Rattle.cluster_file.proofs.placement_laws.newcomers_change_one_place.Goals as goal

pub returns : goal.returns
returns c k n node nodes name =
    ap (λ zs. take n zs) (in_order-push name nodes node) ∙ take-with_node name node n (in_order name nodes)
