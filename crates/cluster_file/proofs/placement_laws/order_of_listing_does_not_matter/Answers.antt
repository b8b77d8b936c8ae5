use Rattle.std.proofs.Common.{ap, take, List, ℕ}
use Rattle.layout.specs.Layout.{Layout}
use Rattle.cluster_file.proofs.NodeOrderLemmas.{in_order-IsPermutation}
use Rattle.cluster_file.proofs.placement_laws.order_of_listing_does_not_matter.Goals as goal

pub returns : goal.returns
returns c k n nodes others name same =
    ap (λ (xs : List ℕ). let l : Layout = record { k = k; members = take n xs } in l) (in_order-IsPermutation name nodes others same)
