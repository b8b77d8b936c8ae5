use Rattle.std.proofs.Common.{◌≡◌, List, ℕ, take, ap, subst, sym, ◌∙◌}
use Rattle.layout.specs.Layout.{Layout, IsLawful as IsLawfulLayout}
use Rattle.cluster_file.specs.Placement.{ClusterNodes, in_order, placed}
use Rattle.cluster_file.proofs.FirstNodesLemmas.{placed-IsLawful}
use Rattle.cluster_file.proofs.cluster_nodes.ClusterNodes.place.Goals as goal

pub unreachable-requires : goal.unreachable-requires
unreachable-requires c =
    let inside = c.self.inside in
    let cluster : ClusterNodes = record { k = inside.k; n = inside.n; nodes = inside.nodes.items } in
    let name = c.args.name.now in
    let listed : c.deref-2.result.now ≡ (placed cluster name).members =
    c.deref-2.ensures.0 ∙ c.first_of-members.ensures
    ∙ ap (λ (nodes : List ℕ). take inside.n (in_order name nodes)) c.deref.ensures.0 in
    let lawful = placed-IsLawful cluster name c.self.invariant in
    let none = c.in-Err.ensures.lawful.1 (subst (λ (members : List ℕ).
    IsLawfulLayout (let l : Layout = record { k = inside.k; members = members } in l)) (sym listed) lawful) in
    cc none

pub returns : goal.returns
returns c =
    let inside = c.self.inside in
    let name = c.args.name.now in
    let cluster : ClusterNodes = record { k = inside.k; n = inside.n; nodes = inside.nodes.items } in
    let listed : c.deref-2.result.now ≡ (placed cluster name).members =
    c.deref-2.ensures.0 ∙ c.first_of-members.ensures
    ∙ ap (λ (nodes : List ℕ). take inside.n (in_order name nodes)) c.deref.ensures.0 in
    rw (← c.self.view_is) (c.in-Ok.ensures.made
    ∙ ap (λ (members : List ℕ). let l : Layout = record { k = inside.k; members = members } in l) listed)
