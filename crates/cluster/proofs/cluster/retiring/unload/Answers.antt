use Rattle.std.proofs.Common.{◌<◌, length, refl, arith}
use Rattle.record.specs.Accounts.{base_bytes_of}
use Rattle.cluster.proofs.RetiredSumLemmas.{unload_next}
use Rattle.cluster.proofs.cluster.retiring.unload.Goals as goal

pub loop-server-init : goal.loop-server-init
loop-server-init c = record { count = refl; freed = λ server less. absurd (omega (arith, less)); others = λ server low. refl }

pub replace_part-requires : goal.replace_part-requires
replace_part-requires c =
    let server = c.loop-server.server in
    let count = c.requires.count in
    let test = c.loop-server-test.true in
    let there : server < length c.args.loads.now = omega (arith, count, test) in
    let same = c.loop-server.invariant.others server (omega arith) in
    let length_is = c.loop-server.invariant.count in
    let part = c.requires.part server there in
    let most = c.requires.within server there in
    let bytes = c.stored_at_base.ensures.value in
    record {
      there = omega (arith, there, length_is);
      part = omega (arith, same, part, bytes);
      within = omega (arith, same, most);
    }

pub loop-server-preserved : goal.loop-server-preserved
loop-server-preserved c =
    let count = c.requires.count in
    let test = c.loop-server-test.true in
    let there : c.loop-server.server < length c.args.loads.now = omega (arith, count, test) in
    let next = unload_next c.args.loads.now c.loop-server.loads c.replace_part.new.self c.loop-server.server c.stored_at_base.result
    (base_bytes_of c.args.register.now.object)
    (record {
      count = c.loop-server.invariant.count;
      freed = c.loop-server.invariant.freed;
      others = c.loop-server.invariant.others;
    }) there (c.requires.part c.loop-server.server there) c.stored_at_base.ensures.value c.replace_part.ensures in
    record { count = next.count; freed = next.freed; others = next.others }
