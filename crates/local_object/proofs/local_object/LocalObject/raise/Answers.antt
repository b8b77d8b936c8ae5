use Rattle.std.proofs.Common.{◌≡◌, true, [], sym, subst, ◌∙◌}
use Rattle.local_object.specs.Codes.{carried}
use Rattle.local_object.specs.Doing.{IsOutcome}
use Rattle.local_object.specs.Local.{LocalObject}
use Rattle.local_object.specs.Passed.{can_raise, raise_events}
use Rattle.local_object.proofs.PassedLemmas.{raise_done}
use Rattle.local_object.proofs.local_object.LocalObject.raise.Goals as goal

pub returns-clause-done : goal.returns-clause-done
returns-clause-done c =
    let o = c.self.inside in
    let local : LocalObject =
    record { node = o.node; delta = o.delta; start = o.start; places = o.places; reports = o.reports; calls = carried o.node o.calls } in
    subst (λ (l : LocalObject). can_raise l c.args.position ≡ true
    → IsOutcome l (raise_events l c.args.position) (record local { places = c.serve.new.self }) [])
    c.self.view_is
    (λ can. raise_done local c.args.position 0 c.serve.new.self can c.in_ok-_reply.ensures.places)
    (sym c.can_raise.ensures ∙ c.if-not-can_raise.false)
