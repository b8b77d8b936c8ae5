use Rattle.std.proofs.Common.{IsSome, ap, subst, ◌∙◌}
use Rattle.std.proofs.lemmas.Result.{IfOk-weaker, on_ok_weaker}
use Rattle.local_object.specs.Local.{LocalObject, layout_here}
use Rattle.local_object.specs.Outcomes.{Outcome}
use Rattle.local_object.proofs.BeginLemmas.{start_begun}
use Rattle.local_object.proofs.local_object.LocalObject.begin_at_start.Goals as goal

pub begin-requires-clause-known : goal.begin-requires-clause-known
begin-requires-clause-known c =
    subst (λ (l : LocalObject). IsSome (layout_here l c.self.inside.start)) c.self.view_is c.self.invariant.known

pub returns-clause-known : goal.returns-clause-known
returns-clause-known c = subst (λ (l : LocalObject). IsSome (layout_here l l.start)) c.self.view_is c.self.invariant.known

pub returns-clause-local : goal.returns-clause-local
returns-clause-local c =
    on_ok_weaker c.begin.result
    (λ is. is ∙ ap (λ (t : Outcome). t.local) (start_begun c.args.self.now c.args.id c.args.kind c.first_number.result c.self.inside.start
    c.first_number.ensures (ap (λ (l : LocalObject). l.start) c.self.view_is)))
    c.begin.ensures.local

pub returns-clause-letters : goal.returns-clause-letters
returns-clause-letters c =
    IfOk-weaker c.begin.result _ _
    (λ letters is. is ∙ ap (λ (t : Outcome). t.sent) (start_begun c.args.self.now c.args.id c.args.kind c.first_number.result
    c.self.inside.start c.first_number.ensures (ap (λ (l : LocalObject). l.start) c.self.view_is)))
    c.begin.ensures.letters
