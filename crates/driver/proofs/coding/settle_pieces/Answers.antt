use Rattle.driver.proofs.CodingJobLemmas.{settle_same, settled_own}
use Rattle.driver.proofs.NamedObjectLemmas.{by_cause, exactly}
use Rattle.driver.proofs.coding.settle_pieces.Goals as goal

pub returns-clause-step : goal.returns-clause-step
returns-clause-step c =
    settled_own c.args.cluster.now c.args.name.now c.args.call c.settle_at.result c.args.k c.args.len c.args.pieces.items
    c.in_ok-decoded.decoded.value c.settle_at.new.self c.requires.pieces c.in_ok-decoded.ensures.interpolated c.settle_at.ensures.may
    c.settle_at.ensures.step

pub returns-clause-cause : goal.returns-clause-cause
returns-clause-cause c =
    by_cause _ _ c.settle_at.result
    (settle_same c.args.cluster.now c.args.name.now c.args.call c.args.k c.args.len c.args.pieces.items c.in_ok-decoded.decoded
    c.requires.pieces c.in_ok-decoded.ensures.kept.0 c.in_ok-decoded.ensures.kept.1)
    (exactly _ c.settle_at.result c.settle_at.ensures.cause)
