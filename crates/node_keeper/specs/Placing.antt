-- The layouts that names have before any move, of which some are remembered.
use Rattle.std.specs.Prelude.{◌≡◌, ℕ, nat_eq, List, Some}
use Rattle.std.specs.Cmp.Lexicographic.{pointwise}
use Rattle.indexmap.specs.IndexMap.{IndexMap, get}
use Rattle.layout.specs.Layout.{Layout}
use Rattle.cluster_file.specs.Placement.{ClusterNodes, placed}

-- each layout that is remembered is the one that placement gives its name
abbrev pub ArePlaced : {S : Type 0} → ClusterNodes → IndexMap (List ℕ) Layout S → Type 0
ArePlaced nodes recent = (name : List ℕ) (layout : Layout)
    → get (pointwise nat_eq) recent name ≡ Some layout → layout ≡ placed nodes name
