use Rattle.std.proofs.Common.{◌<◌, length, sym, ap, subst, ◌∙◌, arith}
use Rattle.cluster.specs.Accounts.{server_bytes}
use Rattle.cluster.specs.Cluster.{Cluster}
use Rattle.cluster.proofs.cluster.Cluster.stored.Goals as goal

pub at-requires : goal.at-requires
at-requires c =
    let there : c.args.server < length c.self.inside.servers = subst (λ (k : Cluster). c.args.server < length k.servers)
    (sym c.self.view_is) c.requires in
    omega (arith, there, c.self.invariant.summed.servers)

pub returns : goal.returns
returns c =
    let there : c.args.server < length c.self.inside.servers = subst (λ (k : Cluster). c.args.server < length k.servers)
    (sym c.self.view_is) c.requires in
    c.at.ensures ∙ c.self.invariant.summed.stored c.args.server there ∙ ap (λ (k : Cluster). server_bytes k c.args.server) c.self.view_is
