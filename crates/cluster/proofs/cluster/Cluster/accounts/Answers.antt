use Rattle.std.proofs.Common.{◌≡◌, ◌∙◌, ap, arith, rules, length}
use Rattle.std.proofs.lemmas.Grind.{common_steps}
use Rattle.std.proofs.lemmas.List.FromFn.{length-map-range_with_len, map-range_with_len_more}
use Rattle.cluster.specs.Accounts.{server_bytes}
use Rattle.cluster.proofs.ServerTotalLemmas.{objects_total}
use Rattle.cluster.proofs.cluster.Cluster.accounts.Goals as goal

pub push-requires : goal.push-requires
push-requires c =
    let long : length c.loop-server.servers.items ≡ c.loop-server.server =
    ap length c.loop-server.invariant ∙ length-map-range_with_len (server_bytes c.args.self.now) 0 c.loop-server.server in
    omega arith

pub loop-server-preserved : goal.loop-server-preserved
loop-server-preserved c =
    let e = map-range_with_len_more (server_bytes c.args.self.now) 0 c.loop-server.server c.loop-server.server (omega arith) in
    grind (arith, common_steps, e)

pub returns : goal.returns
returns c =
    let now = c.args.self.now in
    let total = objects_total (length now.servers) now.counter now.objects c.invariant.ensures.1.1.objects in
    record {
      servers = search rules;
      all = c.stored_all.ensures.value ∙ total;
      together = c.stored_all.ensures.value;
      mail = c.mailed.ensures.value;
    }
