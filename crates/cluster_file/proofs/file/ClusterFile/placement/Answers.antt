use Rattle.std.proofs.Common.{◌≡◌, List, ℕ, ap, subst, sym, ◌∙◌}
use Rattle.cluster_file.specs.Placement.{ClusterNodes, AreLawfulNodes}
use Rattle.cluster_file.proofs.file.ClusterFile.placement.Goals as goal

pub unreachable-requires : goal.unreachable-requires
unreachable-requires c =
    let fixed = c.self.inside.fixed in
    let listed : c.deref.result.now ≡ fixed.nodes.items = c.deref.ensures.0 in
    let none = c.in-Err.ensures.lawful.1 (subst (λ (nodes : List ℕ).
    AreLawfulNodes (let p : ClusterNodes = record { k = fixed.k; n = fixed.n; nodes = nodes } in p)) (sym listed)
    c.self.invariant.placed) in
    cc none

pub returns : goal.returns
returns c =
    let fixed = c.self.inside.fixed in
    let listed : c.deref.result.now ≡ fixed.nodes.items = c.deref.ensures.0 in
    rw (← c.self.view_is) (c.in-Ok.ensures.made
    ∙ ap (λ (nodes : List ℕ). let p : ClusterNodes = record { k = fixed.k; n = fixed.n; nodes = nodes } in p) listed)
