use Rattle.std.proofs.Common.{sym, subst}
use Rattle.mail.specs.Bounds.{AreRising}
use Rattle.mail.proofs.CallBoundLemmas.{bounds_rise, others_below}
use Rattle.mail.proofs.mail.Mail.first_place.Goals as goal

pub first_at_least-requires : goal.first_at_least-requires
first_at_least-requires c =
    subst AreRising (sym c.deref.ensures.value)
    (bounds_rise 0 c.self.inside.messages.items c.self.inside.bounds.items c.self.invariant.bounded)

pub returns : goal.returns
returns c =
    rw (← c.self.view_is)
    (others_below c.args.call c.first_at_least.result 0 c.self.inside.messages.items c.deref.result.now
    (rw c.deref.ensures.value c.self.invariant.bounded) c.first_at_least.ensures.within c.first_at_least.ensures.below)
