use Rattle.std.proofs.Common.{Option, Some, None, cond, is_some, sym, ap, ◌∙◌}
use Rattle.tag.specs.declared.refusal.Refusal.TheVariants.{NotNow}
use Rattle.open_calls.specs.OpenCalls.{NodeCall, open_call}
use Rattle.local_object.specs.Local.{LocalObject}
use Rattle.local_object.proofs.BeginLemmas.{open_found}
use Rattle.local_object.proofs.CarriedCallLemmas.{open_none}
use Rattle.local_object.proofs.local_object.LocalObject.refuse_open.Goals as goal

pub returns-in-Some-clause-cause : goal.returns-in-Some-clause-cause
returns-in-Some-clause-cause c =
    ap (λ (o : Option NodeCall). cond (is_some o) (Some NotNow) None)
    (ap (λ (l : LocalObject). open_call l.calls c.args.id) (sym c.self.view_is)
    ∙ open_found c.self.inside.node c.self.inside.calls c.args.id c.in-Some.field-0 c.in-Some.ensures.distinct c.in-Some.ensures.index)

pub returns-in-None-clause-new : goal.returns-in-None-clause-new
returns-in-None-clause-new c =
    ap (λ (l : LocalObject). open_call l.calls c.args.id) (sym c.self.view_is)
    ∙ open_none c.self.inside.node c.self.inside.calls c.args.id c.in-None.ensures.index

pub returns-in-None-clause-cause : goal.returns-in-None-clause-cause
returns-in-None-clause-cause c =
    ap (λ (o : Option NodeCall). cond (is_some o) (Some NotNow) None)
    (ap (λ (l : LocalObject). open_call l.calls c.args.id) (sym c.self.view_is)
    ∙ open_none c.self.inside.node c.self.inside.calls c.args.id c.in-None.ensures.index)
