use Rattle.std.proofs.Common.{arith, ◌∙◌}
use Rattle.std.proofs.lemmas.Grind.{common_steps}
use Rattle.std.proofs.lemmas.Result.{err_from_is_err_and}
use Rattle.node_store.proofs.GrowthLemmas.{grows_same, grows_twice, keeps_front_of, synced_writes}
use Rattle.node_store.proofs.writing.append_bytes.Goals as goal

pub returns-then-is_empty-clause-kept : goal.returns-then-is_empty-clause-kept
returns-then-is_empty-clause-kept g c = grind (arith, common_steps)

pub returns-in_err-append_parts-clause-kept : goal.returns-in_err-append_parts-clause-kept
returns-in_err-append_parts-clause-kept g c =
    let p = err_from_is_err_and c.from_residual.result c.from_residual.ensures.1 in
    let (front, back, parts, got) = c.in_err-append_parts.ensures.written in
    rw p.1 (keeps_front_of _ _ _ _ c.args.bytes.now front back parts c.requires.synced c.append_parts.ensures.kept got
    (c.append_parts.ensures.within c.requires.sound (grows_same _ _ c.requires.synced)))

pub returns-clause-kept : goal.returns-clause-kept
returns-clause-kept g c =
    let sound = c.append_parts.ensures.sound ∙ c.requires.sound in
    let front = c.append_parts.ensures.within c.requires.sound (grows_same _ _ c.requires.synced) in
    synced_writes c.sync.result _ _ _ _ _ c.args.bytes.now c.requires.synced c.in_ok-append_parts.ensures.written
    (grows_twice _ _ _ c.append_parts.ensures.kept (c.sync.ensures.kept sound front)) c.sync.ensures.written
    (c.sync.ensures.within sound front) (c.sync.ensures.all sound)
