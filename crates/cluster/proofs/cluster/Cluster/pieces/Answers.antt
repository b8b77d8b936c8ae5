use Rattle.std.proofs.Common.{inl}
use Rattle.register.specs.Causes.{pieces_cause}
use Rattle.cluster.proofs.FoundObjectLemmas.{none_at}
use Rattle.cluster.proofs.cluster.Cluster.pieces.Goals as goal

pub returns-in-Some : goal.returns-in-Some
returns-in-Some c = record { pieces = c.pieces_at.ensures.pieces; cause = c.pieces_at.ensures.cause }

pub returns-in-None-clause-cause : goal.returns-in-None-clause-cause
returns-in-None-clause-cause c =
    inl (none_at c.args.self.now c.args.name.now (λ object. pieces_cause object c.args.call) c.in-None.ensures)
