use Rattle.std.proofs.Common.{◌+◌, ap, refl, sym, subst, ◌∙◌}
use Rattle.local_object.specs.Distinct.{KnowsStart}
use Rattle.local_object.specs.Local.{LocalObject}
use Rattle.local_object.proofs.StartLemmas.{grown_known, start_grows, start_stays}
use Rattle.local_object.proofs.local_object.LocalObject.grow.Goals as goal

pub invariant_of-self : goal.invariant_of-self
invariant_of-self c =
    subst (λ (l : LocalObject). KnowsStart l.places (l.start + 1)) (sym c.self.view_is)
    (grown_known c.args.self.now c.args.id (sym c.grows_by.ensures ∙ c.if-grows_by.true))

pub returns-then-grows_by : goal.returns-then-grows_by
returns-then-grows_by c =
    start_grows c.args.self.now c.args.id _ (sym c.grows_by.ensures ∙ c.if-grows_by.true)
    (ap (λ (l : LocalObject). record l { start = l.start + 1 }) c.self.view_is)

pub returns-else-grows_by : goal.returns-else-grows_by
returns-else-grows_by c =
    start_stays c.args.self.now c.args.id c.args.self.now (sym c.grows_by.ensures ∙ c.if-grows_by.false) refl
