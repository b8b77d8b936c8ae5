use Rattle.soak_parts.proofs.AccountSumLemmas.{accounted_of}
use Rattle.soak_parts.proofs.audit.are_accounted.Goals as goal

pub returns-clause-accounts : goal.returns-clause-accounts
returns-clause-accounts c =
    let same =
    accounted_of c.args.cluster.now c.in_ok-one.one.now c.in_ok-other.other.now c.in_ok-one.ensures.object
    c.in_ok-other.ensures.object in
    ((λ t. same.0 (c.are_added.ensures.0 t)), λ a. c.are_added.ensures.1 (same.1 a))
