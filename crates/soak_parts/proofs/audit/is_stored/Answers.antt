use Rattle.std.proofs.Common.{◌≤◌, ◌^◌, arith, length}
use Rattle.cluster.specs.Accounts as all
use Rattle.cluster.proofs.SumBoundLemmas.{member_part}
use Rattle.soak_parts.proofs.AccountSumLemmas.{capped_equal}
use Rattle.soak_parts.proofs.audit.is_stored.Goals as goal

pub returns : goal.returns
returns c =
    let part = member_part (all.server_bytes c.args.cluster.now) c.args.server (length c.args.cluster.now.servers) c.requires in
    let few : all.server_bytes c.args.cluster.now c.args.server ≤ 2 ^ 62 =
    omega (arith, part, c.stored_all-most.ensures.value, c.stored_all-most.ensures.within) in
    capped_equal _ _ _ _ c.both_anew.ensures c.stored.ensures few
