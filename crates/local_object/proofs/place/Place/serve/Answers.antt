use Rattle.std.proofs.Common.{subst, sym}
use Rattle.local_object.specs.Distinct.{IsBankInOrderIfOpen}
use Rattle.local_object.proofs.UnchangedBankLemmas.{kept_in_order, kept_opened_in_order}
use Rattle.local_object.proofs.place.Place.serve.Goals as goal

pub invariant_of-self : goal.invariant_of-self
invariant_of-self c =
    kept_in_order c.serve.result c.in-Some.bank c.serve.new.self c.args.request.now
    (subst IsBankInOrderIfOpen c.in-Some.is c.self.invariant) c.serve.ensures.bank c.serve.ensures.unchanged

pub invariant_of-self-in-None : goal.invariant_of-self-in-None
invariant_of-self-in-None c =
    subst IsBankInOrderIfOpen (sym c.in_ok-reply-in-None.ensures.bank)
    (kept_opened_in_order c.args.member c.args.delta c.args.request.now)
